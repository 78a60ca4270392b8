use Rattle.dr_turns_law.proofs.Done.{reset_here}
use Rattle.dr_turns_law.proofs.reaps.resets_before_switch.Goals as goal

pub returns : goal.returns
returns c = reset_here
