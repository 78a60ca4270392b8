use Rattle.dr_history_law.proofs.Switch.{same_at_switch}
use Rattle.dr_history_law.proofs.same_at_switch.Goals as goal

pub returns : goal.returns
returns c = same_at_switch
