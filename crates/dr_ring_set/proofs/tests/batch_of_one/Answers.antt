use Rattle.std.proofs.Common.{◌∙◌, ◌++◌, ◌∷◌, [], ap, sym, subst, List}
use Rattle.dr_types.specs.declared.entry.Entry.{Entry}
use Rattle.dr_ring.specs.Seats.{NoteView}
use Rattle.dr_ring_set.specs.Batches.{StandFrom}
use Rattle.dr_ring_set.proofs.Batches.{first_stands}
use Rattle.dr_ring_set.proofs.tests.batch_of_one.Goals as goal

pub invariant_of-result-clause-stand : goal.invariant_of-result-clause-stand
invariant_of-result-clause-stand g c =
    let moved = c.in-Some.ensures in
    let noted = c.note-note.ensures.note in
    let one = c.in_ok-push.ensures.ok ∙ ap (λ (xs : List Entry). xs ++ c.in-Some.e ∷ []) c.new-entries.ensures in
    let stands = first_stands _ _ _ _ _ _ _ c.in-Some.e c.push.new.self moved.2 (c.requires.new moved.0 moved.2) moved.4.some moved.3 noted.1 one in
    subst (λ (xs : List Entry). StandFrom 0 c.push.new.self xs) (sym (ap (λ (n : NoteView). n.entries) noted.2)) stands
