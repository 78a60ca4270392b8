use Rattle.dr_schedule_law.proofs.Progress.{op_more}
use Rattle.dr_schedule_law.proofs.growth.op_adds_events.Goals as goal

pub returns : goal.returns
returns c = op_more
