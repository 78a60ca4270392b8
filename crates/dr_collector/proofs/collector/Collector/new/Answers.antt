use Rattle.std.proofs.Common.{arith}
use Rattle.dr_collector.proofs.Beginning.{nothing_pending, nothing_collected}
use Rattle.dr_collector.proofs.collector.Collector.new.Goals as goal

pub invariant_of-result : goal.invariant_of-result
invariant_of-result g c = nothing_pending _ _ _ _ c.recall_named.ensures (omega arith) c.requires c.loop.invariant

pub returns : goal.returns
returns g c = nothing_collected _ _ (omega (arith, c.loop.invariant.count)) c.loop.invariant.each
