-- Entries that were harvested one after the other.
use Rattle.std.specs.Prelude.{◌≡◌, ℕ, ◌+◌, List, slice_get, Some}
use Rattle.dr_types.specs.declared.entry.Entry.{Entry}
use Rattle.dr_ring.specs.Seats.{NoteView}

-- these entries stand in the whole list, the first of them at this number
abbrev pub StandFrom : ℕ → List Entry → List Entry → Type 0
StandFrom first entries whole =
    (k : ℕ) (e : Entry) → slice_get entries k ≡ Some e → slice_get whole (first + k) ≡ Some e

-- a batch: its vCPU, the number of its first entry, its entries, and the user seat's note that was
-- taken after them
pub record BatchView : Type 0 where
  pub vcpu : ℕ
  pub first : ℕ
  pub entries : List Entry
  pub note : NoteView
