use Rattle.dr_history_law.proofs.Copies.{next_copy}
use Rattle.dr_history_law.proofs.pages_are_copied_in_order.Goals as goal

pub returns : goal.returns
returns c = next_copy
