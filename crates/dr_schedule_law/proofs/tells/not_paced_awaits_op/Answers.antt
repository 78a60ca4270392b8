use Rattle.dr_schedule_law.proofs.Telling.{not_paced}
use Rattle.dr_schedule_law.proofs.tells.not_paced_awaits_op.Goals as goal

pub returns : goal.returns
returns c = not_paced
