use Rattle.std.proofs.Common.{ℕ, ◌<◌}
use Rattle.dr_ring_set.specs.Seated.{HasAt}
use Rattle.dr_schedule_law.specs.Reaps.{AreFirstDeposited}
use Rattle.dr_migrate_rows.proofs.reaping.are_all_deposited.Given as goal

abbrev pub invariant-loop-v : goal.invariant-loop-v
invariant-loop-v g l = (w : ℕ) → w < l.v → HasAt l.collector w (λ c. AreFirstDeposited w c.handed l.bench.past)
