use Rattle.dr_schedule_law.proofs.Scheduled.{advance_follows}
use Rattle.dr_schedule_law.proofs.schedule.advance_follows.Goals as goal

pub returns : goal.returns
returns c = advance_follows
