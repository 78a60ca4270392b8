use Rattle.dr_history_law.proofs.Execution.{executes_in_order}
use Rattle.dr_history_law.proofs.executes_in_order.Goals as goal

pub returns : goal.returns
returns c = executes_in_order
