use Rattle.dr_schedule_law.proofs.Telling.{finished}
use Rattle.dr_schedule_law.proofs.tells.finished_has_switched.Goals as goal

pub returns : goal.returns
returns c = finished
