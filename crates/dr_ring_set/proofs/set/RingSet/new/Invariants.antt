use Rattle.std.proofs.Common.{◌≡◌, length}
use Rattle.dr_ring_set.specs.Seated.{IsNewSet}
use Rattle.dr_ring_set.proofs.set.RingSet.new.Given as goal

abbrev pub invariant-loop : goal.invariant-loop
invariant-loop l = IsNewSet l.rings.items l.kernels.items l.users.items l.fn.size × (length l.rings.items ≡ l.counter)
