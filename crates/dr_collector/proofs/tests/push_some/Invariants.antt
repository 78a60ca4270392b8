use Rattle.std.proofs.Common.{◌≡◌, ℕ, ◌+◌, ◌≤◌, length}
use Rattle.dr_ring_set.specs.Seated.{IfAt}
use Rattle.dr_collector.proofs.tests.push_some.Given as goal

abbrev pub invariant-loop-k : goal.invariant-loop-k
invariant-loop-k g l = (w : ℕ) → IfAt l.kernels w (λ s. (length s.pushed ≤ l.done + l.k) × (s.reset ≡ 0))
