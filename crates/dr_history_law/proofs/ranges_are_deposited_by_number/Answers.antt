use Rattle.dr_history_law.proofs.Entered.{some_deposited}
use Rattle.dr_history_law.proofs.ranges_are_deposited_by_number.Goals as goal

pub returns : goal.returns
returns c = some_deposited
