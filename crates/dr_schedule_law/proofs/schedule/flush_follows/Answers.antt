use Rattle.dr_schedule_law.proofs.Scheduled.{flush_follows}
use Rattle.dr_schedule_law.proofs.schedule.flush_follows.Goals as goal

pub returns : goal.returns
returns c = flush_follows
