use Rattle.dr_schedule_law.proofs.Scheduled.{halt_follows}
use Rattle.dr_schedule_law.proofs.schedule.halt_follows.Goals as goal

pub returns : goal.returns
returns c = halt_follows
