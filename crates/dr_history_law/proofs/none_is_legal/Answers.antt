use Rattle.dr_history_law.proofs.First.{none_is_legal}
use Rattle.dr_history_law.proofs.none_is_legal.Goals as goal

pub returns : goal.returns
returns c = none_is_legal
