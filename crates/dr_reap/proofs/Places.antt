-- How many entries a vCPU has pushed at most: those of its batch, where the batch was harvested with the machine's note.
use Rattle.std.proofs.Common.{◌≡◌, ℕ, ◌+◌, ◌-◌, ◌<◌, ◌≤◌, Bool, true, false, cond, List, [], ◌∷◌, refl, sym, ◌∙◌, subst, arith, inl, inr, ◌⊎◌}
use Rattle.std.specs.Prelude.{◌==◌}
use Rattle.std.proofs.lemmas.Bool.{and_parts, cases_lt, eqb-true, ltb-true, le-ltb, true≢false}
use Rattle.dr_types.specs.declared.guest.Guest.{Guest}
use Rattle.dr_history.specs.declared.event.Event.{Event}
use Rattle.dr_history.specs.declared.event.Event.TheVariants.{Pushed, Reset}
use Rattle.dr_history.specs.Entries.{pushes, resets, used}
use Rattle.dr_history.specs.Legality.{IsLegalSoFar}
use Rattle.dr_history.specs.Rules.{pushes_next}
use Rattle.dr_history_law.proofs.Kept.{keeps}
use Rattle.dr_turns_law.proofs.Done.{reset_deposited}
use Rattle.dr_schedule_law.specs.Reaps.{AreFirstDeposited}

push_case : (same : Bool) (p r size : ℕ) → (same ≡ true → p - r < size) → p ≤ r + size
    → cond same (p + 1) p ≤ r + size
push_case true p r size place le = let lt : p - r < size = place refl in omega (arith, lt, le)
push_case false p r size place le = le

reset_case : (same : Bool) (p r size : ℕ) → p ≤ r + size → p ≤ cond same (r + 1) r + size
reset_case true p r size le = omega arith
reset_case false p r size le = le

-- no more entries are pushed than are reset and have places in the ring
pub pushes_fit : (guest : Guest) (past : List Event) (v : ℕ) → IsLegalSoFar guest past
    → pushes v past ≤ resets v past + guest.settings.ring
unfolding pushes_next
pushes_fit guest [] v legal = omega arith
pushes_fit guest (Pushed w k ∷ past) v legal =
    push_case (w == v) (pushes v past) (resets v past) guest.settings.ring
    (λ same.
    let place : used w past < guest.settings.ring = ltb-true (used w past) guest.settings.ring
    (and_parts _ _ (keeps guest past (Pushed w k) legal.0).pushes_next_holds).1 in
    subst (λ (u : ℕ). used u past < guest.settings.ring) (eqb-true w v same) place)
    (pushes_fit guest past v legal.1)
pushes_fit guest (Reset w k ∷ past) v legal = reset_case (w == v) (pushes v past)
    (resets v past) guest.settings.ring (pushes_fit guest past v legal.1)
pushes_fit guest (e ∷ past) v legal = pushes_fit guest past v legal.1

-- no more entries are reset than are deposited
pub resets_within : (guest : Guest) (past : List Event) (v n : ℕ) → IsLegalSoFar guest past
    → AreFirstDeposited v n past → resets v past ≤ n
resets_within guest past v n legal first =
    elim (cases_lt n (resets v past)) [
      | inl lt ↦ absurd (true≢false
          (sym (reset_deposited guest past v n legal lt) ∙ first.is n ∙ le-ltb n n (omega arith)))
      | inr ge ↦ ge
    ]

-- where it reaches the note's pushes, or fills the ring
pub reaches_pushes : (guest : Guest) (past : List Event) (v first count noted size : ℕ)
    → IsLegalSoFar guest past → AreFirstDeposited v first past → size ≡ guest.settings.ring
    → noted ≡ pushes v past → (noted ≤ first + count) ⊎ (count ≡ size) → pushes v past ≤ first + count
reaches_pushes guest past v first count noted size legal deposited same seen told =
    let fit : pushes v past ≤ resets v past + guest.settings.ring = pushes_fit guest past v legal in
    let within : resets v past ≤ first = resets_within guest past v first legal deposited in
    elim told [
      | inl le ↦ omega (arith, le, seen)
      | inr full ↦ omega (arith, fit, within, full, same)
    ]
