use Rattle.dr_schedule_law.proofs.Telling.{has_op}
use Rattle.dr_schedule_law.proofs.tells.awaited_op_exists.Goals as goal

pub returns : goal.returns
returns c = has_op
