use Rattle.dr_reap.proofs.Staying.{op_keeps_all}
use Rattle.dr_reap.proofs.laws.op_keeps_all_deposited.Goals as goal

pub returns : goal.returns
returns c = op_keeps_all
