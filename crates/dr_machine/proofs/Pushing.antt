-- An entry goes into its ring, and its Pushed into the history.
use Rattle.std.proofs.Common.{◌≡◌, ℕ, ◌+◌, ◌^◌, ◌-◌, ◌<◌, List, [], ◌∷◌, ◌++◌, length, Option, Some, sym, ap, ◌∙◌, subst, arith, add-one}
use Rattle.std.specs.Prelude.{All, IfSome}
use Rattle.atomic_table.specs.Seated.{TableId}
use Rattle.dr_types.specs.declared.guest.Guest.{Guest}
use Rattle.dr_types.specs.declared.guest.SlotRow.{SlotRow}
use Rattle.dr_types.specs.declared.entry.Entry.{Entry}
use Rattle.dr_types.specs.Pages.{pages_of_slots}
use Rattle.dr_types.specs.Scripts.{vcpu_count}
use Rattle.dr_types.specs.Validity.{IsValid}
use Rattle.dr_history.specs.declared.event.Event.{Event}
use Rattle.dr_history.specs.declared.event.Event.TheVariants.{Pushed}
use Rattle.dr_history.specs.Entries.{pushes, used, page_of_entry}
use Rattle.dr_history.specs.Legality.{IsLegalSoFar}
use Rattle.dr_history_law.specs.Room.{unpushed}
use Rattle.dr_history_law.proofs.Entered.{page_named}
use Rattle.dr_event_law.specs.May.{MayFollow, AtRest}
use Rattle.dr_slots.specs.Places.{place_of}
use Rattle.dr_log.specs.Views as log
use Rattle.dr_ring.specs.Seats.{KernelView, IsOfSize}
use Rattle.dr_ring_set.specs.Seated.{IfAt, MovesAt}
use Rattle.dr_seat_law.specs.Entries.{entry}
use Rattle.dr_seat_law.proofs.FirstEntries.{entry_of_page, few_pushes}
use Rattle.dr_seat_law.proofs.Seating.{seats_push, seat_counts, seat_has_room}
use Rattle.dr_turns.specs.Buffers.{pushed_after}
use Rattle.dr_turns_law.proofs.Buffers.{own_pushes, next_follows}
use Rattle.dr_machine.specs.Tied.{AreTied}

-- an entry lies where its page lies
pub is_entry : (guest : Guest) (past : List Event) (v k page : ℕ) (slots : List SlotRow) (e : Entry) → slots ≡ guest.slots → Some page ≡ page_of_entry v k past → Some e ≡ place_of slots page → entry guest v k past ≡ Some e
is_entry guest past v k page slots e are is place =
    entry_of_page guest past v k page e (sym is) (ap (λ (rows : List SlotRow). place_of rows page) (sym are) ∙ sym place)

-- and that is a page of the guest
pub page_within : (guest : Guest) (past : List Event) (v k page : ℕ) (slots : List SlotRow) → slots ≡ guest.slots → IsLegalSoFar guest past → Some page ≡ page_of_entry v k past → page < pages_of_slots slots
page_within guest past v k page slots are legal is =
    let named : page < pages_of_slots guest.slots = subst (λ (o : Option ℕ). IfSome o (λ p. p < pages_of_slots guest.slots)) (sym is) (page_named guest past v k legal) in
    subst (λ (rows : List SlotRow). page < pages_of_slots rows) (sym are) named

-- the rings have the size of the guest's
one_size : (guest : Guest) (rings : List TableId) (v size : ℕ) → v < length rings → All (IsOfSize guest.settings.ring) rings → All (IsOfSize size) rings → size ≡ guest.settings.ring
one_size guest [] v size lt ours theirs = absurd (omega arith)
one_size guest (id ∷ ids) v size lt ours theirs =
    let a = ours 0 id (omega arith) in
    let b = theirs 0 id (omega arith) in
    omega (arith, a, b)

-- a vCPU has its ring
pub has_ring : (guest : Guest) (rings : List TableId) (slots : List SlotRow) (log : log.LogView) (seats : List KernelView) (v : ℕ) → AreTied guest rings slots log seats → v < vcpu_count guest → v < length rings
has_ring guest rings slots log seats v tied lt = subst (λ (n : ℕ). v < n) (sym tied.rings_are.one_each) lt

-- where the events leave a place in a ring, its seat has one
pub seat_has_place : (guest : Guest) (rings : List TableId) (slots : List SlotRow) (log : log.LogView) (seats : List KernelView) (v size : ℕ) → AreTied guest rings slots log seats → IsLegalSoFar log.guest log.past → All (IsOfSize size) rings → v < vcpu_count guest → used v log.past < guest.settings.ring
    → IfAt seats v (λ s. length s.pushed < s.reset + size)
seat_has_place guest rings slots log seats v size tied legal sizes lt place =
    λ s at.
    let same : size ≡ guest.settings.ring = one_size guest rings v size (has_ring guest rings slots log seats v tied lt) tied.rings_are.sized sizes in
    subst (λ (n : ℕ). length s.pushed < s.reset + n) (sym same)
    (seat_has_room guest log.past v guest.settings.ring s (tied.seats_are.are v s at) (subst (λ (g : Guest). IsLegalSoFar g log.past) tied.guest_is legal) place)

-- and its count has room
pub seat_has_count : (guest : Guest) (rings : List TableId) (slots : List SlotRow) (log : log.LogView) (seats : List KernelView) (v : ℕ) → AreTied guest rings slots log seats → IsLegalSoFar log.guest log.past → IsValid log.guest
    → IfAt seats v (λ s. length s.pushed < 2 ^ 64 - 1)
seat_has_count guest rings slots log seats v tied legal valid =
    λ s at.
    subst (λ (n : ℕ). n < 2 ^ 64 - 1) (sym (seat_counts guest log.past v s (tied.seats_are.are v s at)))
    (few_pushes log.guest log.past v valid legal)

-- what a push of the seat and its event leave
pub ties_push : (guest : Guest) (rings : List TableId) (slots : List SlotRow) (old new : log.LogView) (seats moved : List KernelView) (v k : ℕ) (e : Entry) → AreTied guest rings slots old seats → k ≡ pushes v old.past → entry old.guest v k old.past ≡ Some e
    → MovesAt seats moved v (λ s t. t ≡ record s { pushed = s.pushed ++ e ∷ [] }) → new.guest ≡ old.guest → new.past ≡ Pushed v k ∷ old.past → AreTied guest rings slots new moved
ties_push guest rings slots old new seats moved v k e tied number is moves same past = record {
  guest_is = same ∙ tied.guest_is;
  slots_are = tied.slots_are;
  rings_are = tied.rings_are;
  seats_are = rw past (seats_push guest old.past v k e seats moved number (subst (λ (g : Guest). entry g v k old.past ≡ Some e) tied.guest_is is) tied.seats_are moves);
}

-- the next of a buffer may be pushed
pub next_may_follow : (guest : Guest) (past : List Event) (v n : ℕ) → v < vcpu_count guest → IsValid guest → AtRest guest past → IsLegalSoFar guest (pushed_after v n past) → n < unpushed v past → MayFollow guest (pushed_after v n past) (Pushed v (pushes v (pushed_after v n past)))
next_may_follow guest past v n lt valid rest legal more =
    next_follows guest past v n (pushes v (pushed_after v n past)) lt valid rest legal more (own_pushes v n past)

pub one_more : (past : List Event) (v n : ℕ) → Pushed v (pushes v (pushed_after v n past)) ∷ pushed_after v n past ≡ pushed_after v (n + 1) past
one_more past v n = ap (λ m. pushed_after v m past) (sym (add-one n))
