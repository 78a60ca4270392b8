-- What ties a machine's log to its rings, and what each turn leaves of it.
use Rattle.std.proofs.Common.{◌≡◌, ℕ, ◌<◌, max, List, [], ◌∷◌, length, map, Some, sym, ap, ◌∙◌, subst}
use Rattle.std.proofs.lemmas.List.{length-map}
use Rattle.atomic_table.specs.Seated.{TableId}
use Rattle.dr_types.specs.declared.guest.Guest.{Guest}
use Rattle.dr_types.specs.declared.guest.SlotRow.{SlotRow}
use Rattle.dr_types.specs.Scripts.{vcpu_count}
use Rattle.dr_history.specs.declared.event.Event.{Event}
use Rattle.dr_history.specs.declared.event.Event.TheVariants.{Read, Write, Paint, Local, Halted, Opened, Filled}
use Rattle.dr_history.specs.Entries.{opens}
use Rattle.dr_history.specs.Legality.{IsLegalSoFar}
use Rattle.dr_history.specs.Rules.{vcpu_of_op}
use Rattle.dr_history_law.specs.Room.{unpushed}
use Rattle.dr_event_law.specs.May.{MayFollow}
use Rattle.dr_log.specs.Views as log
use Rattle.dr_ring.specs.Seats.{KernelView, new_kernel}
use Rattle.dr_ring_set.specs.Seated.{ring_of_kernel}
use Rattle.dr_seat_law.specs.Seats.{AreSeats, IsAside}
use Rattle.dr_seat_law.proofs.Seating.{begin_seats, seats_stay}
use Rattle.dr_turns.specs.Between.{AtTurnsEnd}
use Rattle.dr_turns.specs.Turns.{executed}
use Rattle.dr_turns_law.proofs.Executing.{by_executed}
use Rattle.dr_machine.specs.Tied.{AreRingsFor, AreTied}

-- a new log and new seats
pub ties_new : (guest held : Guest) (rings : List TableId) (slots : List SlotRow) (log : log.LogView) (seats : List KernelView) → held ≡ guest → AreRingsFor guest rings → slots ≡ held.slots → log.guest ≡ held → log.past ≡ [] → seats ≡ map new_kernel rings → AreTied guest rings slots log seats
ties_new guest held rings slots log seats is are slots_are log_is none new = record {
  guest_is = log_is ∙ is;
  slots_are = slots_are ∙ ap (λ (g : Guest). g.slots) is;
  rings_are = are;
  seats_are = rw (none, new) (begin_seats guest rings);
}

-- an event that pushes and resets nothing changes no tie
pub ties_aside : (guest : Guest) (rings : List TableId) (slots : List SlotRow) (old new : log.LogView) (seats : List KernelView) (e : Event) → IsAside e → AreTied guest rings slots old seats → IsLegalSoFar old.guest old.past → MayFollow guest old.past e → new.guest ≡ old.guest → new.past ≡ e ∷ old.past → AreTied guest rings slots new seats
ties_aside guest rings slots old new seats e aside tied legal follows same past = record {
  guest_is = same ∙ tied.guest_is;
  slots_are = tied.slots_are;
  rings_are = tied.rings_are;
  seats_are = rw past (seats_stay guest old.past e seats (subst (λ (g : Guest). IsLegalSoFar g old.past) tied.guest_is legal) follows aside tied.seats_are);
}

op_aside : (e : Event) (v : ℕ) → vcpu_of_op e ≡ Some v → IsAside e
op_aside (Read w i space a x) v is = tt
op_aside (Write w i space a l x) v is = tt
op_aside (Paint w i q b) v is = tt
op_aside (Local w i) v is = tt
op_aside (Halted w i) v is = tt
op_aside e v is = cc

-- an event aside leaves the seats
pub seats_after : (guest : Guest) (past : List Event) (e : Event) (seats : List KernelView) → IsAside e → IsLegalSoFar guest (e ∷ past) → AreSeats guest past seats → AreSeats guest (e ∷ past) seats
seats_after guest past e seats aside legal are = seats_stay guest past e seats legal.1 (record { kept = legal.0 }) aside are

seats_executed : (guest : Guest) (past : List Event) (v : ℕ) (seats : List KernelView) → AreSeats guest past seats → IsLegalSoFar guest (executed guest v past) → AreSeats guest (executed guest v past) seats
seats_executed guest past v seats are =
    by_executed (λ (xs : List Event). IsLegalSoFar guest xs → AreSeats guest xs seats) guest past v
    (λ none legal. are)
    (λ e is legal. seats_after guest past e seats (op_aside e v is) legal are)
    (λ e page is legal. seats_after guest (Filled v page ∷ past) e seats (op_aside e v is) legal (seats_after guest past (Filled v page) seats tt legal.1 are))
    (λ e page is legal. seats_after guest (Opened v (opens v past) page ∷ past) e seats (op_aside e v is) legal (seats_after guest past (Opened v (opens v past) page) seats tt legal.1 are))

-- nor does what a vCPU executes
pub ties_executed : (guest : Guest) (rings : List TableId) (slots : List SlotRow) (old new : log.LogView) (seats : List KernelView) (v : ℕ) → AreTied guest rings slots old seats → IsLegalSoFar new.guest new.past → new.guest ≡ guest → new.past ≡ executed guest v old.past → AreTied guest rings slots new seats
ties_executed guest rings slots old new seats v tied legal same past = record {
  guest_is = same;
  slots_are = tied.slots_are;
  rings_are = tied.rings_are;
  seats_are =
      let now : IsLegalSoFar guest (executed guest v old.past) = rw (sym past, sym same) legal in
      rw past (seats_executed guest old.past v seats tied.seats_are now);
}

-- a buffer has no more entries than it takes, between turns
pub few_unpushed : (guest : Guest) (past : List Event) (v : ℕ) → AtTurnsEnd guest past → unpushed v past < max 1 guest.settings.buffer
few_unpushed guest past v end = end.buffers v

-- there is one seat for each vCPU, where the seats are of a name's rings
pub one_seat_each : (guest : Guest) (rings : List TableId) (seats : List KernelView) → AreRingsFor guest rings → map ring_of_kernel seats ≡ rings → length seats ≡ vcpu_count guest
one_seat_each guest rings seats are named = sym (length-map seats ring_of_kernel) ∙ ap length named ∙ are.one_each
