use Rattle.dr_turns_law.proofs.Done.{reset_deposited}
use Rattle.dr_turns_law.proofs.reaps.deposits_before_reset.Goals as goal

pub returns : goal.returns
returns c = reset_deposited
