use Rattle.std.proofs.Common.{◌≡◌, ◌≤◌, length}
use Rattle.dr_ring.proofs.tests.finish.Given as goal

abbrev pub invariant-loop : goal.invariant-loop
invariant-loop l = (l.kernel.ring ≡ l.fn.ring.id) × (l.user.ring ≡ l.fn.ring.id) × (length l.kernel.pushed ≡ l.pushed) × (l.pushed ≤ 1000)
