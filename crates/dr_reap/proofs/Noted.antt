-- Notes of the kernel seats, one after the other.
use Rattle.std.proofs.Common.{◌≡◌, ℕ, ◌+◌, ◌<◌, ◌≤◌, true, List, [], ◌∷◌, ◌++◌, length, take, refl, ap, sym, ◌∙◌, subst, arith, ⊎_elim, Some, slice_get}
use Rattle.std.proofs.lemmas.List.{take_all, length-map, length-take-le}
use Rattle.atomic_table.specs.Seated.{TableId}
use Rattle.dr_types.specs.declared.guest.Guest.{Guest}
use Rattle.dr_history.specs.declared.event.Event.{Event}
use Rattle.dr_history.specs.Entries.{pushes}
use Rattle.dr_ring.specs.Seats.{KernelView, NoteView, kernel_note}
use Rattle.dr_ring.proofs.Places.{slice_get-push}
use Rattle.dr_ring_set.specs.Seated.{HasAt}
use Rattle.dr_seat_law.specs.Seats.{AreSeats}
use Rattle.dr_seat_law.proofs.Seating.{seat_counts}
use Rattle.dr_collector.specs.Batched.{ring_of_note}
use Rattle.dr_collector.proofs.Pushes.{note_more, kernel_more}
use Rattle.dr_reap.specs.Harvests.{AreNotes}

-- a note has as many entries as its vCPU pushed
pub note_counts : (guest : Guest) (past : List Event) (seats : List KernelView) (v : ℕ) (note : NoteView)
    → AreSeats guest past seats → HasAt seats v (λ s. note ≡ kernel_note s)
    → length note.entries ≡ pushes v past
note_counts guest past seats v note are at =
    ap (λ (n : NoteView). length n.entries) at.2 ∙ seat_counts guest past v at.0 (are.are v at.0 at.1)

-- of no ring
pub notes_none : (past : List Event) → AreNotes [] past []
notes_none past = record {
  of_rings = refl;
  of_kernel = λ k d lt. absurd (omega (arith, lt));
  pushed = λ v n at. absurd cc;
}

-- one more, of the next vCPU
pub notes_more : (rings : List TableId) (past : List Event) (v : ℕ) (old new : List NoteView)
    (n : NoteView) → AreNotes (take v rings) past old → v < length rings → slice_get rings v ≡ Some n.ring
    → n.by_kernel ≡ true → length n.entries ≡ pushes v past → new ≡ old ++ n ∷ []
    → AreNotes (take (v + 1) rings) past new
notes_more rings past v old new n are lt named kernel counts one = record {
  of_rings = note_more rings old new v n are.of_rings named one;
  of_kernel = kernel_more old new n are.of_kernel kernel one;
  pushed = λ w m at. ⊎_elim
      (λ (before : slice_get old w ≡ Some m). are.pushed w m before)
      (λ (last : (w ≡ length old) × (n ≡ m)).
      let count : length old ≡ v = sym (length-map old ring_of_note) ∙ ap length are.of_rings
      ∙ length-take-le v rings (omega (arith, lt)) in
      ap (λ (x : NoteView). length x.entries) (sym last.1) ∙ counts
      ∙ ap (λ (u : ℕ). pushes u past) (sym (last.0 ∙ count)))
      (slice_get-push old n m w (subst (λ (xs : List NoteView). slice_get xs w ≡ Some m) one at));
}

-- of all rings
pub notes_all : (rings : List TableId) (past : List Event) (v : ℕ) (notes : List NoteView)
    → AreNotes (take v rings) past notes → length rings ≤ v → AreNotes rings past notes
notes_all rings past v notes are le = subst (λ (ids : List TableId). AreNotes ids past notes)
    (take_all v rings le) are
