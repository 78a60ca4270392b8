use Rattle.dr_schedule_law.proofs.Scheduled.{cut_begins}
use Rattle.dr_schedule_law.proofs.schedule.cut_begins_schedule.Goals as goal

pub returns : goal.returns
returns c = cut_begins
