use Rattle.dr_schedule_law.proofs.KeptDeposits.{op_keeps_deposits}
use Rattle.dr_schedule_law.proofs.reaps.op_deposits_nothing.Goals as goal

pub returns : goal.returns
returns c = op_keeps_deposits
