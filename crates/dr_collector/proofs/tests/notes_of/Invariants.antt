use Rattle.std.proofs.Common.{◌≡◌, map, take, All, true}
use Rattle.dr_collector.specs.Batched.{ring_of_note}
use Rattle.dr_collector.proofs.tests.notes_of.Given as goal

abbrev pub invariant-loop-v : goal.invariant-loop-v
invariant-loop-v g l = record {
  of_rings : map ring_of_note l.notes ≡ take l.v g.N.Name.rings;
  of_kernel : All (λ n. n.by_kernel ≡ true) l.notes;
}
