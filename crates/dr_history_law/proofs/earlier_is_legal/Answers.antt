use Rattle.dr_history_law.proofs.Earlier.{earlier_legal}
use Rattle.dr_history_law.proofs.earlier_is_legal.Goals as goal

pub returns : goal.returns
returns c = earlier_legal
