use Rattle.std.proofs.Common.{◌-◌, length}
use Rattle.dr_collector.proofs.Filling.{IsFilling}
use Rattle.dr_collector.proofs.fills.fill.Given as goal

abbrev pub invariant-loop-pending : goal.invariant-loop-pending
invariant-loop-pending g l = IsFilling l.rings.size l.v l.initial.users l.users l.initial.pending l.pending

abbrev pub decreases-loop-pending : goal.decreases-loop-pending
decreases-loop-pending g l = l.rings.size - length l.pending.entries
