use Rattle.dr_schedule_law.proofs.Scheduled.{following_is_scheduled}
use Rattle.dr_schedule_law.proofs.schedule.following_is_scheduled.Goals as goal

pub returns : goal.returns
returns c = following_is_scheduled
