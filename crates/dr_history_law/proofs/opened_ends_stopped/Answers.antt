use Rattle.dr_history_law.proofs.Stop.{opens_last}
use Rattle.dr_history_law.proofs.opened_ends_stopped.Goals as goal

pub returns : goal.returns
returns c = opens_last
