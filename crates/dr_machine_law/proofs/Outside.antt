-- Outside the guest a vCPU is not kicked and its buffer is empty.
use Rattle.std.proofs.Common.{◌≡◌, ℕ, ◌+◌, ◌-◌, ◌≤◌, Bool, true, false, cond, List, [], ◌∷◌, refl, arith, true≢false, subst}
use Rattle.std.specs.Prelude.{◌==◌}
use Rattle.std.proofs.lemmas.Bool.{or_parts, and_parts, eqb-true}
use Rattle.dr_types.specs.declared.guest.Guest.{Guest}
use Rattle.dr_types.specs.declared.guest.Why.{Why}
use Rattle.dr_history.specs.declared.event.Event.{Event}
use Rattle.dr_history.specs.declared.event.Event.TheVariants.{Read, Write, Paint, Local, Halted, Opened, Pushed, Exited, Asked}
use Rattle.dr_history.specs.Entries.{opens, pushes}
use Rattle.dr_history.specs.Legality.{IsLegalSoFar}
use Rattle.dr_history.specs.Rules.{exits_with_reason}
use Rattle.dr_history.specs.Vcpus.{in_guest, kicked}
use Rattle.dr_history_law.specs.Order.{last_opens_for}
use Rattle.dr_history_law.specs.Room.{unpushed}
use Rattle.dr_history_law.proofs.Kept.{keeps}
use Rattle.dr_history_law.proofs.Order.{unowed, open_count, none_owed}

left_case : (same inside kicks : Bool) → (inside ≡ false → kicks ≡ false) → cond same false inside ≡ false → cond same false kicks ≡ false
left_case true inside kicks f h = refl
left_case false inside kicks f h = f h

-- who is outside is not kicked
pub outside_unkicked : (v : ℕ) (past : List Event) → in_guest v past ≡ false → kicked v past ≡ false
outside_unkicked v [] h = refl
outside_unkicked v (Exited w why ∷ past) h = left_case (w == v) (in_guest v past) (kicked v past) (outside_unkicked v past) h
outside_unkicked v (Asked r ∷ past) h = h
outside_unkicked v (Read w i space a x ∷ past) h = outside_unkicked v past (or_parts (w == v) (in_guest v past) h).1
outside_unkicked v (Write w i space a l x ∷ past) h = outside_unkicked v past (or_parts (w == v) (in_guest v past) h).1
outside_unkicked v (Paint w i q b ∷ past) h = outside_unkicked v past (or_parts (w == v) (in_guest v past) h).1
outside_unkicked v (Local w i ∷ past) h = outside_unkicked v past (or_parts (w == v) (in_guest v past) h).1
outside_unkicked v (Halted w i ∷ past) h = outside_unkicked v past (or_parts (w == v) (in_guest v past) h).1
outside_unkicked v (e ∷ past) h = outside_unkicked v past h

push_count : (same : Bool) (o p : ℕ) → o ≤ p + 0 → o ≤ cond same (p + 1) p + 0
push_count true o p h = omega arith
push_count false o p h = h

exit_case : (same inside : Bool) (o p : ℕ) → (same ≡ true → p ≡ o) → (inside ≡ false → o ≤ p + 0) → cond same false inside ≡ false → o ≤ p + 0
exit_case true inside o p own other h = let is : p ≡ o = own refl in omega arith
exit_case false inside o p own other h = other h

exit_pushed : (guest : Guest) (v : ℕ) (why : Why) (past : List Event) → exits_with_reason guest past (Exited v why) ≡ true → pushes v past ≡ opens v past
unfolding exits_with_reason
exit_pushed guest v why past h = eqb-true (pushes v past) (opens v past) (and_parts _ _ (and_parts _ _ h).0).1

pushed_at : (w v : ℕ) (past : List Event) → pushes w past ≡ opens w past → (w == v) ≡ true → pushes v past ≡ opens v past
pushed_at w v past is same = subst (λ (u : ℕ). pushes u past ≡ opens u past) (eqb-true w v same) is

outside_opens : (guest : Guest) (v : ℕ) (past : List Event) → IsLegalSoFar guest past → in_guest v past ≡ false → opens v past ≤ pushes v past + cond (last_opens_for v past) 1 0
outside_opens guest v [] legal h = omega arith
outside_opens guest v (Opened w k q ∷ past) legal h =
    open_count (w == v) (last_opens_for v past) (opens v past) (pushes v past) (unowed guest past v (Opened w k q) legal.0 refl) (outside_opens guest v past legal.1 h)
outside_opens guest v (Pushed w k ∷ past) legal h =
    push_count (w == v) (opens v past) (pushes v past) (none_owed (last_opens_for v past) (opens v past) (pushes v past) (unowed guest past v (Pushed w k) legal.0 refl) (outside_opens guest v past legal.1 h))
outside_opens guest v (Exited w why ∷ past) legal h =
    exit_case (w == v) (in_guest v past) (opens v past) (pushes v past) (pushed_at w v past (exit_pushed guest w why past (keeps guest past (Exited w why) legal.0).exits_with_reason_holds))
    (λ inside. none_owed (last_opens_for v past) (opens v past) (pushes v past) (unowed guest past v (Exited w why) legal.0 refl) (outside_opens guest v past legal.1 inside)) h
outside_opens guest v (Read w i space a x ∷ past) legal h =
    none_owed (last_opens_for v past) (opens v past) (pushes v past) (unowed guest past v (Read w i space a x) legal.0 refl) (outside_opens guest v past legal.1 (or_parts (w == v) (in_guest v past) h).1)
outside_opens guest v (Local w i ∷ past) legal h =
    none_owed (last_opens_for v past) (opens v past) (pushes v past) (unowed guest past v (Local w i) legal.0 refl) (outside_opens guest v past legal.1 (or_parts (w == v) (in_guest v past) h).1)
outside_opens guest v (Halted w i ∷ past) legal h =
    none_owed (last_opens_for v past) (opens v past) (pushes v past) (unowed guest past v (Halted w i) legal.0 refl) (outside_opens guest v past legal.1 (or_parts (w == v) (in_guest v past) h).1)
outside_opens guest v (Write w i space a l x ∷ past) legal h =
    let parts = or_parts (w == v) (in_guest v past) h in
    none_owed (last_opens_for v past) (opens v past) (pushes v past) (unowed guest past v (Write w i space a l x) legal.0 parts.0) (outside_opens guest v past legal.1 parts.1)
outside_opens guest v (Paint w i q b ∷ past) legal h =
    let parts = or_parts (w == v) (in_guest v past) h in
    none_owed (last_opens_for v past) (opens v past) (pushes v past) (unowed guest past v (Paint w i q b) legal.0 parts.0) (outside_opens guest v past legal.1 parts.1)
outside_opens guest v (e ∷ past) legal h =
    none_owed (last_opens_for v past) (opens v past) (pushes v past) (unowed guest past v e legal.0 refl) (outside_opens guest v past legal.1 h)

empty_case : (last : Bool) (o p : ℕ) → last ≡ false → o ≤ p + cond last 1 0 → o - p ≡ 0
empty_case true o p z h = absurd (true≢false z)
empty_case false o p z h = omega arith

-- and where no Opened stands last, all that it has opened is pushed
pub outside_empty : (guest : Guest) (v : ℕ) (past : List Event) → IsLegalSoFar guest past → last_opens_for v past ≡ false → in_guest v past ≡ false → unpushed v past ≡ 0
outside_empty guest v past legal last outside = empty_case (last_opens_for v past) (opens v past) (pushes v past) last (outside_opens guest v past legal outside)
