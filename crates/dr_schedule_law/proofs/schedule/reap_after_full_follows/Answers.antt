use Rattle.dr_schedule_law.proofs.Scheduled.{full_follows}
use Rattle.dr_schedule_law.proofs.schedule.reap_after_full_follows.Goals as goal

pub returns : goal.returns
returns c = full_follows
