use Rattle.dr_schedule_law.proofs.Telling.{switches}
use Rattle.dr_schedule_law.proofs.tells.switched_switches.Goals as goal

pub returns : goal.returns
returns c = switches
