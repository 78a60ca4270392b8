use Rattle.dr_schedule_law.proofs.Timing.{block_times}
use Rattle.dr_schedule_law.proofs.schedule.block_adds_its_time.Goals as goal

pub returns : goal.returns
returns c = block_times
