use Rattle.dr_history_law.proofs.Order.{in_order}
use Rattle.dr_history_law.proofs.opens_in_order.Goals as goal

pub returns : goal.returns
returns c = in_order
