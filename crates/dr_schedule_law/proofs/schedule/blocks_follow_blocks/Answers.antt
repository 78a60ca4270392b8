use Rattle.dr_schedule_law.proofs.Scheduled.{follows_then}
use Rattle.dr_schedule_law.proofs.schedule.blocks_follow_blocks.Goals as goal

pub returns : goal.returns
returns c = follows_then
