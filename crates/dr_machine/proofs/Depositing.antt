-- A batch goes into the history, and its vCPU's seat learns that it was harvested.
use Rattle.std.proofs.Common.{◌≡◌, ℕ, ◌+◌, ◌<◌, ◌≤◌, List, [], ◌∷◌, length, Some, sym, ap, subst, ◌∙◌, refl, arith, length-append}
use Rattle.std.specs.Prelude.{slice_get, None, true}
use Rattle.std.proofs.lemmas.Option.{slice_get_within}
use mathlib.Core.List.{IsPrefix}
use Rattle.atomic_table.specs.Seated.{TableId}
use Rattle.dr_types.specs.declared.guest.Guest.{Guest}
use Rattle.dr_types.specs.declared.guest.SlotRow.{SlotRow}
use Rattle.dr_types.specs.declared.entry.Entry.{Entry}
use Rattle.dr_history.specs.declared.event.Event.TheVariants.{Deposited, Reset}
use Rattle.dr_types.specs.Scripts.{vcpu_count}
use Rattle.dr_history.specs.Entries.{pushes}
use Rattle.dr_history.specs.Legality.{IsLegalSoFar}
use Rattle.dr_event_law.specs.May.{MayFollow}
use Rattle.dr_log.specs.Views as log
use Rattle.dr_ring.specs.Seats.{KernelView, kernel_learnt}
use Rattle.dr_ring_set.specs.Seated.{MovesAt, IsReset}
use Rattle.dr_ring_set.specs.Batches.{StandFrom}
use Rattle.dr_seat_law.proofs.Seating.{seats_deposit, seats_reset, seat_counts, seat_knows}
use Rattle.dr_turns.specs.Between.{AtTurnsEnd}
use Rattle.dr_turns_law.specs.Deposits.{next_deposited, first_twice}
use Rattle.dr_turns_law.proofs.Depositing.{deposit_follows, deposit_ends}
use Rattle.dr_machine.specs.Tied.{AreTied}

last_at : {X : Type 0} (x : X) (xs : List X) → (y : X) × (slice_get (x ∷ xs) (length xs) ≡ Some y)
last_at x [] = (x, refl)
last_at x (z ∷ xs) = last_at z xs

-- entries that stand in a list end in it
pub stand_within : (first : ℕ) (entries whole : List Entry) → StandFrom first entries whole → 0 < length entries → first + length entries ≤ length whole
stand_within first [] whole stand some = absurd (omega arith)
stand_within first (e ∷ entries) whole stand some =
    let last = last_at e entries in
    let lt : first + length entries < length whole = slice_get_within whole (first + length entries) last.0 (stand (length entries) last.0 last.1) in
    omega (arith, lt)

prefix_fits : (xs ys : List Entry) → IsPrefix xs ys → length xs ≤ length ys
prefix_fits xs ys p = let e : length xs + length p.0 ≡ length ys = sym (length-append xs p.0) ∙ ap length p.1 in omega (arith, e)

-- what was harvested was pushed
pub harvested_are_pushed : (guest : Guest) (rings : List TableId) (slots : List SlotRow) (log : log.LogView) (seats moved : List KernelView) (v first : ℕ) (entries noted : List Entry) → AreTied guest rings slots log seats
    → MovesAt seats moved v (λ s t. (t ≡ kernel_learnt s noted) × IsPrefix noted s.pushed) → StandFrom first entries noted → 0 < length entries → first + length entries ≤ pushes v log.past
harvested_are_pushed guest rings slots log seats moved v first entries noted tied moves stand some =
    let a : first + length entries ≤ length noted = stand_within first entries noted stand some in
    let b : length noted ≤ length moves.0.pushed = prefix_fits noted moves.0.pushed moves.4.1 in
    let c : length moves.0.pushed ≡ pushes v log.past = seat_counts guest log.past v moves.0 (tied.seats_are.are v moves.0 moves.2) in
    omega (arith, a, b, c)

-- so a deposit of it breaks no rule, and ends a turn
pub deposit_fits : (guest : Guest) (rings : List TableId) (slots : List SlotRow) (log : log.LogView) (seats moved : List KernelView) (v first : ℕ) (entries noted : List Entry) (ring : TableId) → AreTied guest rings slots log seats
    → MovesAt seats moved v (λ s t. (t ≡ kernel_learnt s noted) × IsPrefix noted s.pushed) → StandFrom first entries noted → 0 < length entries → slice_get rings v ≡ Some ring → IsLegalSoFar guest log.past → AtTurnsEnd guest log.past
    → first_twice v first log.past (first + length entries) ≡ None → MayFollow guest log.past (Deposited v first (first + length entries)) × AtTurnsEnd guest (Deposited v first (first + length entries) ∷ log.past)
deposit_fits guest rings slots log seats moved v first entries noted ring tied moves stand some named legal end fresh =
    let lt : v < vcpu_count guest = subst (λ (n : ℕ). v < n) tied.rings_are.one_each (slice_get_within rings v ring named) in
    let more : first < first + length entries = omega (arith, some) in
    let pushed = harvested_are_pushed guest rings slots log seats moved v first entries noted tied moves stand some in (
      deposit_follows guest log.past v first (first + length entries) lt legal end more pushed fresh,
      deposit_ends guest log.past v first (first + length entries) legal end more pushed fresh,
    )

-- what a deposit leaves
pub ties_deposit : (guest : Guest) (rings : List TableId) (slots : List SlotRow) (old new : log.LogView) (seats moved : List KernelView) (v first : ℕ) (entries noted : List Entry) → AreTied guest rings slots old seats
    → MovesAt seats moved v (λ s t. (t ≡ kernel_learnt s noted) × IsPrefix noted s.pushed) → StandFrom first entries noted → 0 < length entries → new.guest ≡ old.guest → new.past ≡ Deposited v first (first + length entries) ∷ old.past → AreTied guest rings slots new moved
ties_deposit guest rings slots old new seats moved v first entries noted tied moves stand some same past = record {
  guest_is = same ∙ tied.guest_is;
  slots_are = tied.slots_are;
  rings_are = tied.rings_are;
  seats_are = rw past
      (seats_deposit guest old.past v first (first + length entries) noted seats moved (stand_within first entries noted stand some) tied.seats_are
      (moves.0, moves.1, moves.2, moves.3, moves.4.0));
}

-- a seat whose next entry was deposited resets it
pub next_is_harvested : (guest : Guest) (rings : List TableId) (slots : List SlotRow) (log : log.LogView) (seats moved : List KernelView) (v size : ℕ) → AreTied guest rings slots log seats → next_deposited v log.past ≡ true
    → MovesAt seats moved v (λ s t. IsReset size s t None) → ⊥
unfolding next_deposited
next_is_harvested guest rings slots log seats moved v size tied next moves =
    let less : moves.0.reset < moves.0.known = seat_knows guest log.past v moves.0 (tied.seats_are.are v moves.0 moves.2) next in
    let most = moves.4.learnt refl in
    omega (arith, less, most)

-- what a reset leaves
pub ties_reset : (guest : Guest) (rings : List TableId) (slots : List SlotRow) (old new : log.LogView) (seats moved : List KernelView) (v k size : ℕ) (e : Entry) → AreTied guest rings slots old seats
    → MovesAt seats moved v (λ s t. IsReset size s t (Some e)) → new.guest ≡ old.guest → new.past ≡ Reset v k ∷ old.past → AreTied guest rings slots new moved
ties_reset guest rings slots old new seats moved v k size e tied moves same past = record {
  guest_is = same ∙ tied.guest_is;
  slots_are = tied.slots_are;
  rings_are = tied.rings_are;
  seats_are = rw past (seats_reset guest old.past v k size e seats moved tied.seats_are (moves.0, moves.1, moves.2, moves.3, moves.4.is_reset));
}
