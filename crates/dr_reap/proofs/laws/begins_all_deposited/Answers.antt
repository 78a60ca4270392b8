use Rattle.dr_reap.proofs.Staying.{begins_all_deposited}
use Rattle.dr_reap.proofs.laws.begins_all_deposited.Goals as goal

pub returns : goal.returns
returns c = begins_all_deposited
