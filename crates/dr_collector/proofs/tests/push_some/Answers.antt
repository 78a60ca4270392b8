use Rattle.std.proofs.Common.{arith}
use Rattle.dr_collector.proofs.Pushes.{pushed_fewer, pushed_more}
use Rattle.dr_collector.proofs.tests.push_some.Goals as goal

pub loop-k-init : goal.loop-k-init
loop-k-init g c = pushed_fewer _ _ _ c.requires.few (omega arith)

pub loop-k-preserved : goal.loop-k-preserved
loop-k-preserved g c = pushed_more _ _ _ _ _ _ c.loop-k.invariant c.push.ensures (omega arith)

pub returns : goal.returns
returns g c = pushed_fewer _ _ _ c.loop-k.invariant (omega arith)
