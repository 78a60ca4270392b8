-- Batches as the ranges of the numbers of their entries.
use Rattle.std.specs.Prelude.{List, map, length}
use Rattle.dr_ring_set.specs.declared.batch.Batch.{Batch}
use Rattle.dr_schedule_law.specs.Settled.{Range, range_of}

-- the numbers of a batch's entries
abbrev pub range_of_batch : {N : Type 0} {name : _} → Batch N name → Range
range_of_batch b = range_of b.vcpu b.first (length b.entries)

-- those of each batch of a list
abbrev pub ranges_of : {N : Type 0} {name : _} → List (Batch N name) → List Range
ranges_of batches = map range_of_batch batches
