-- What isn't deposited fits into the ring.
use Rattle.std.proofs.Common.{◌≡◌, ℕ, ◌-◌, ◌<◌, ◌≤◌, false, List, [], ◌∷◌, refl, ◌∙◌, arith, inl, inr}
use Rattle.std.proofs.lemmas.Bool.{cases_lt, le-ltb, both_ways, and_parts, not-true, true≢false}
use Rattle.std.specs.List.{list_any}
use Rattle.dr_types.specs.declared.guest.Guest.{Guest}
use Rattle.dr_types.specs.Validity.{IsValid}
use Rattle.dr_history.specs.declared.event.Event.{Event}
use Rattle.dr_history.specs.declared.event.Event.TheVariants.{Opened}
use Rattle.dr_history.specs.Entries.{pushes, resets}
use Rattle.dr_history.specs.Legality.{IsLegalSoFar}
use Rattle.dr_history.specs.Rules.{deposits_entry, last_owes_write}
use Rattle.dr_history_law.specs.Order.{last_opens_for}
use Rattle.dr_history_law.proofs.Room.{stays_in_room, room_below_ring}
use Rattle.dr_turns_law.proofs.Done.{reset_deposited}
use Rattle.dr_turns_law.proofs.Buffers.{valid_ring}
use Rattle.dr_turns.specs.Between.{AtTurnsEnd}
use Rattle.dr_schedule_law.specs.Reaps.{AreFirstDeposited}

-- all that is reset is deposited
pub resets_within : (guest : Guest) (past : List Event) (v n : ℕ) → IsLegalSoFar guest past
    → AreFirstDeposited v n past → resets v past ≤ n
resets_within guest past v n legal first =
    elim (cases_lt n (resets v past)) [
      | inl lt ↦ absurd
          (both_ways (list_any (deposits_entry v n) past) (first.is n ∙ le-ltb n n (omega arith))
          (reset_deposited guest past v n legal lt))
      | inr ge ↦ ge
    ]

none_opens : (v : ℕ) (past : List Event) → last_owes_write past ≡ false → last_opens_for v past ≡ false
none_opens v [] h = refl
none_opens v (Opened w k page ∷ past) h = absurd (true≢false h)
none_opens v (e ∷ past) h = refl

-- what a vCPU pushed and isn't deposited is less than its ring has places
pub rest_fits : (guest : Guest) (past : List Event) (v n : ℕ) → IsValid guest → IsLegalSoFar guest past
    → AtTurnsEnd guest past → AreFirstDeposited v n past → pushes v past - n < guest.settings.ring
rest_fits guest past v n valid legal end first =
    let unowed : last_opens_for v past ≡ false = none_opens v past
    (not-true (last_owes_write past) (and_parts _ _ end.rests).0) in
    let few = stays_in_room guest past v legal unowed in
    let room = room_below_ring guest (valid_ring guest valid) in
    let within = resets_within guest past v n legal first in
    omega (arith, few, room, within)
