-- What an advance leaves of the seats.
use Rattle.std.proofs.Common.{◌≡◌, ℕ, List, sym}
use Rattle.atomic_table.specs.Seated.{TableId}
use Rattle.dr_types.specs.declared.guest.Guest.{Guest}
use Rattle.dr_types.specs.declared.guest.SlotRow.{SlotRow}
use Rattle.dr_history.specs.declared.event.Event.{Event}
use Rattle.dr_history.specs.declared.event.Event.TheVariants.{Start, Asked, Synced, Copied, Throttled, Stopped, Switched}
use Rattle.dr_history.specs.Legality.{IsLegalSoFar}
use Rattle.dr_log.specs.Views as log
use Rattle.dr_ring.specs.Seats.{KernelView}
use Rattle.dr_seat_law.specs.Seats.{AreSeats, IsAside}
use Rattle.dr_turns_law.specs.Advances.{IsAdvance}
use Rattle.dr_turns_law.proofs.Whole.{by_advanced}
use Rattle.dr_turns.specs.Due.{advanced}
use Rattle.dr_machine.specs.Tied.{AreTied}
use Rattle.dr_machine.proofs.Machines.{seats_after}

advance_aside : (e : Event) → IsAdvance e → IsAside e
advance_aside (Start at) is = tt
advance_aside (Asked r) is = tt
advance_aside (Synced r at pages) is = tt
advance_aside (Copied r page) is = tt
advance_aside (Throttled v us) is = tt
advance_aside Stopped is = tt
advance_aside Switched is = tt
advance_aside e is = absurd is

seats_advanced : (guest : Guest) (now : ℕ) (past : List Event) (seats : List KernelView) → AreSeats guest past seats → IsLegalSoFar guest (advanced guest now past).1 → AreSeats guest (advanced guest now past).1 seats
seats_advanced guest now past seats are =
    by_advanced (λ (xs : List Event). IsLegalSoFar guest xs → AreSeats guest xs seats) guest now past
    (λ legal. are)
    (λ e xs is on legal. seats_after guest xs e seats (advance_aside e is) legal (on legal.1))

-- an advance changes no tie
pub ties_advanced : (guest : Guest) (rings : List TableId) (slots : List SlotRow) (old new : log.LogView) (seats : List KernelView) (now : ℕ) → AreTied guest rings slots old seats → IsLegalSoFar new.guest new.past → new.guest ≡ guest → new.past ≡ (advanced guest now old.past).1 → AreTied guest rings slots new seats
ties_advanced guest rings slots old new seats now tied legal same past = record {
  guest_is = same;
  slots_are = tied.slots_are;
  rings_are = tied.rings_are;
  seats_are =
      let ours : IsLegalSoFar guest (advanced guest now old.past).1 = rw (sym past, sym same) legal in
      rw past (seats_advanced guest now old.past seats tied.seats_are ours);
}
