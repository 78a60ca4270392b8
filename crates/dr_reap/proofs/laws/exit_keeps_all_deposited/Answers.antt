use Rattle.dr_reap.proofs.Staying.{exit_keeps_all}
use Rattle.dr_reap.proofs.laws.exit_keeps_all_deposited.Goals as goal

pub returns : goal.returns
returns c = exit_keeps_all
