-- Entries that were harvested and went out in no batch.
use Rattle.std.specs.Prelude.{◌≡◌, ℕ, ◌+◌, ◌*◌, ◌<◌, ◌≤◌, ◌⊎◌, Bool, true, false, List, [], ◌∷◌}
use Rattle.std.specs.Prelude.{◌++◌, map, length, drop, slice_get, Option, Some, IfSome}
use Rattle.atomic_table.specs.Seated.{TableId}
use mathlib.Core.List.{IsPrefix}
use Rattle.dr_types.specs.declared.entry.Entry.{Entry}
use Rattle.dr_ring.specs.Seats.{NoteView, UserView, user_note}
use Rattle.dr_ring_set.specs.Seated.{ring_of_user}
use Rattle.dr_ring_set.specs.Batches.{BatchView}
use Rattle.dr_collector.specs.Collected.{Collected, learnt, Harvests, Stops}

-- what is pending of one vCPU: how many entries went out before, the entries, and for how many more
-- there is room
pub record PendingView : Type 0 where
  pub handed : ℕ
  pub entries : List Entry
  pub room : ℕ

-- a seat with what is pending of it
abbrev pub collected : UserView → PendingView → Collected
collected s p = record { seat = s; handed = p.handed }

-- seats with what is pending of them, in one order
abbrev pub all_collected : List UserView → List PendingView → List Collected
all_collected [] ps = []
all_collected (s ∷ ss) [] = []
all_collected (s ∷ ss) (p ∷ ps) = collected s p ∷ all_collected ss ps

-- the pending entries are the seat's from the first on that didn't go out, and no more than its
-- ring has places
pub record IsPending (s : UserView) (p : PendingView) : Type 0 where
  pub within : p.handed ≤ length s.harvested
  pub entries : p.entries ≡ drop p.handed s.harvested
  pub fits : 2 * length p.entries ≤ s.ring.words

-- seats of these rings, with what is pending of each
pub record ArePending (rings : List TableId) (seats : List UserView)
    (pendings : List PendingView) : Type 0 where
  pub named : map ring_of_user seats ≡ rings
  pub count : length pendings ≡ length seats
  pub each : (v : ℕ) (s : UserView) (p : PendingView) → slice_get seats v ≡ Some s
      → slice_get pendings v ≡ Some p → IsPending s p

-- Harvests into the pending entries, in a ring of this size: which were added, and how the seat
-- goes from s to t. `done` is whether memory sufficed.
pub record Fills (size : ℕ) (old new : PendingView) (done : Bool) (s t : UserView) : Type 0 where
  pub handed : new.handed ≡ old.handed
  pub most : length new.entries ≤ size
  pub more : List Entry
  pub added : new.entries ≡ old.entries ++ more
  pub harvested : t.harvested ≡ s.harvested ++ more
  pub ring : t.ring ≡ s.ring
  pub few : done ≡ true → length new.entries < size → Stops size s t
  pub known : done ≡ true → length new.entries < size → s.known ≤ length t.harvested
  pub full : done ≡ true → length new.entries ≡ size → Harvests size s t
  pub refused : done ≡ false → Harvests size s t

-- The same of what is collected, from before a note was learnt, where there is one.
pub record Gathers (size : ℕ) (seen : Option NoteView) (done : Bool)
    (c d : Collected) : Type 0 where
  pub handed : d.handed ≡ c.handed
  pub kept : IsPrefix c.seat.harvested d.seat.harvested
  pub most : length d.seat.harvested ≤ d.handed + size
  pub few : done ≡ true → length d.seat.harvested < d.handed + size
      → Stops size (learnt seen c.seat) d.seat
  pub full : done ≡ true → length d.seat.harvested ≡ d.handed + size
      → Harvests size (learnt seen c.seat) d.seat
  pub told : done ≡ true
      → IfSome seen (λ n. (length n.entries ≤ length d.seat.harvested)
      ⊎ (length d.seat.harvested ≡ d.handed + size))
  pub refused : done ≡ false → Harvests size (learnt seen c.seat) d.seat

-- All that is pending of vCPU v goes out in a batch.
pub record HandsOut (v : ℕ) (c d : Collected) (b : BatchView) : Type 0 where
  pub vcpu : b.vcpu ≡ v
  pub first : b.first ≡ c.handed
  pub within : c.handed ≤ length c.seat.harvested
  pub entries : b.entries ≡ drop c.handed c.seat.harvested
  pub note : b.note ≡ user_note c.seat
  pub seat : d.seat ≡ c.seat
  pub out : d.handed ≡ length c.seat.harvested
