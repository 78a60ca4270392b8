use Rattle.dr_schedule_law.proofs.Scheduled.{reap_follows}
use Rattle.dr_schedule_law.proofs.schedule.reap_follows.Goals as goal

pub returns : goal.returns
returns c = reap_follows
