use Rattle.dr_reap.proofs.Staying.{flush_keeps_all}
use Rattle.dr_reap.proofs.laws.flush_keeps_all_deposited.Goals as goal

pub returns : goal.returns
returns c = flush_keeps_all
