use Rattle.dr_schedule_law.proofs.Scheduled.{exit_follows}
use Rattle.dr_schedule_law.proofs.schedule.exit_follows.Goals as goal

pub returns : goal.returns
returns c = exit_follows
