use Rattle.dr_schedule_law.proofs.Scheduled.{cut_after}
use Rattle.dr_schedule_law.proofs.schedule.cut_follows_blocks.Goals as goal

pub returns : goal.returns
returns c = cut_after
