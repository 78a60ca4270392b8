-- What contracts see of a collector, and what its harvests do to it.
use Rattle.std.specs.Prelude.{◌≡◌, ℕ, List, [], ◌∷◌, Option, Some, None}
use Rattle.atomic_table.specs.Seated.{TableId}
use Rattle.dr_types.specs.declared.entry.Entry.{Entry}
use Rattle.dr_ring.specs.Seats.{NoteView, UserView, user_learnt, user_harvested, LoadsNoDirty}

-- what is collected of one vCPU: its user seat, and how many of the seat's entries went out in
-- batches
pub record Collected : Type 0 where
  pub seat : UserView
  pub handed : ℕ

-- of a seat, when nothing of it went out
abbrev pub begun : UserView → Collected
begun s = record { seat = s; handed = 0 }

-- the ring that it is of
abbrev pub ring_of : Collected → TableId
ring_of c = c.seat.ring

-- the seat, when it has learnt this note, where there is one
abbrev pub learnt : Option NoteView → UserView → UserView
learnt None s = s
learnt (Some n) s = user_learnt s n.entries

-- the seat, when it has harvested these entries one after the other
abbrev pub all_harvested : ℕ → UserView → List Entry → UserView
all_harvested size s [] = s
all_harvested size s (e ∷ more) = all_harvested size (user_harvested size s e) more

-- the seat goes from s to t by harvests, in a ring of this size
abbrev pub Harvests : ℕ → UserView → UserView → Type 0
Harvests size s t = (more : List Entry) × (t ≡ all_harvested size s more)

-- .. and by one load after them, of an entry word that wasn't dirty
abbrev pub Stops : ℕ → UserView → UserView → Type 0
Stops size s t = (more : List Entry) × LoadsNoDirty size (all_harvested size s more) t
