use Rattle.dr_history_law.proofs.Switch.{settles_at_stop}
use Rattle.dr_history_law.proofs.settles_at_stop.Goals as goal

pub returns : goal.returns
returns c = settles_at_stop
