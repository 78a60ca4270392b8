use Rattle.dr_schedule_law.proofs.Scheduled.{op_follows}
use Rattle.dr_schedule_law.proofs.schedule.op_follows.Goals as goal

pub returns : goal.returns
returns c = op_follows
