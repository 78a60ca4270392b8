use Rattle.dr_reap.proofs.Staying.{advance_keeps_all}
use Rattle.dr_reap.proofs.laws.advance_keeps_all_deposited.Goals as goal

pub returns : goal.returns
returns c = advance_keeps_all
