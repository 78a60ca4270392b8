use Rattle.dr_schedule_law.proofs.Scheduled.{any_advance_follows}
use Rattle.dr_schedule_law.proofs.schedule.any_advance_follows.Goals as goal

pub returns : goal.returns
returns c = any_advance_follows
