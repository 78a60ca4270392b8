use Rattle.dr_event_law.proofs.Operations.{op_writes}
use Rattle.dr_event_law.proofs.next_op_writes.Goals as goal

pub returns : goal.returns
returns c = op_writes
