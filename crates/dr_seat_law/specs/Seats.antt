-- What a vCPU's kernel seat has pushed and reset, by the events.
use Rattle.std.specs.Prelude.{◌≡◌, ◌<◌, ℕ, Bool, true, List, map, Some}
use Rattle.std.specs.List.{list_any}
use Rattle.dr_types.specs.declared.guest.Guest.{Guest}
use Rattle.dr_history.specs.declared.event.Event.{Event}
use Rattle.dr_history.specs.declared.event.Event.TheVariants.{Pushed, Deposited, Reset}
use Rattle.dr_history.specs.Entries.{pushes, resets}
use Rattle.dr_history.specs.Rules.{deposits_entry}
use Rattle.dr_ring.specs.Seats.{KernelView}
use Rattle.dr_ring_set.specs.Seated.{IfAt}
use Rattle.dr_seat_law.specs.Entries.{first_entries}

-- the vCPU's entry of this number was deposited
abbrev pub deposited : ℕ → ℕ → List Event → Bool
deposited v k past = list_any (deposits_entry v k) past

-- what the seat has pushed are the vCPU's entries, from the first to the last that is pushed, its
-- reset number is that of the events, and it knows that each entry that was deposited was harvested
pub record IsSeatOf (guest : Guest) (v : ℕ) (past : List Event) (seat : KernelView) : Type 0 where
  pub are_pushed : map Some seat.pushed ≡ first_entries guest v (pushes v past) past
  pub is_reset : seat.reset ≡ resets v past
  pub knows : (k : ℕ) → deposited v k past ≡ true → k < seat.known

-- each kernel seat is that of its vCPU
pub record AreSeats (guest : Guest) (past : List Event) (seats : List KernelView) : Type 0 where
  pub are : (v : ℕ) → IfAt seats v (IsSeatOf guest v past)

-- the event pushes, deposits and resets nothing
abbrev pub IsAside : Event → Type 0
IsAside (Pushed v k) = ⊥
IsAside (Deposited v from to) = ⊥
IsAside (Reset v k) = ⊥
IsAside e = Unit {0}
