use Rattle.std.proofs.Common.{ℕ, ◌<◌}
use Rattle.dr_ring_set.specs.Seated.{HasAt}
use Rattle.dr_schedule_law.specs.Reaps.{AreFirstDeposited}
use Rattle.dr_live_run.proofs.finding.are_all_deposited.Given as goal

abbrev pub invariant-loop-v : goal.invariant-loop-v
invariant-loop-v g l = (u : ℕ) → u < l.v → HasAt l.collector u (λ c. AreFirstDeposited u c.handed l.bench.past)
