use Rattle.dr_schedule_law.proofs.Scheduled.{follows_still}
use Rattle.dr_schedule_law.proofs.schedule.no_block_follows.Goals as goal

pub returns : goal.returns
returns c = follows_still
