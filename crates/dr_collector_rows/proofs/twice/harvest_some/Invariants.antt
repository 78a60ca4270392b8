-- So many entries that are harvested into two lists.
use Rattle.std.proofs.Common.{◌≡◌}
use Rattle.dr_ring_set.specs.Seated.{IfAt}
use Rattle.dr_collector_rows.proofs.twice.harvest_some.Given as goal

-- both lists are all that the seat harvested
abbrev pub invariant-loop : goal.invariant-loop
invariant-loop g l = record {
  one : IfAt l.users l.v (λ s. s.harvested ≡ l.one);
  other : l.other ≡ l.one;
}
