use Rattle.dr_schedule_law.proofs.Scheduled.{op_cut}
use Rattle.dr_schedule_law.proofs.schedule.op_alone_ends_turn.Goals as goal

pub returns : goal.returns
returns c = op_cut
