use Rattle.dr_history_law.proofs.First.{some_is_first}
use Rattle.dr_history_law.proofs.some_is_first.Goals as goal

pub returns : goal.returns
returns c = some_is_first
