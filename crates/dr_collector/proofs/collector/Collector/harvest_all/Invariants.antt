use Rattle.std.proofs.Common.{◌≡◌, map, drop}
use Rattle.dr_collector.specs.Batched.{as_batch}
use Rattle.dr_collector.proofs.AllParts.{AreBatches}
use Rattle.dr_collector.proofs.collector.Collector.harvest_all.Given as goal

abbrev pub invariant-loop-note : goal.invariant-loop-note
invariant-loop-note g l = record {
  are : AreBatches l.rings.size l.v l.fn.seen l.initial.self l.self (map (λ b. as_batch b.vcpu b.first b.entries b.note) l.batches.items);
  left : l.note-iterator.rest.items ≡ drop l.v l.fn.seen;
}
