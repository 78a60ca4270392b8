use Rattle.std.proofs.Common.{◌≡◌, take}
use Rattle.dr_reap.specs.Harvests.{AreNotes}
use Rattle.dr_reap.proofs.notes.notes_of.Given as goal

abbrev pub invariant-loop-v : goal.invariant-loop-v
invariant-loop-v g l = record {
  stays : l.bench ≡ l.initial.bench;
  notes : AreNotes (take l.v g.N.Name.rings) l.initial.bench.past l.notes;
}
