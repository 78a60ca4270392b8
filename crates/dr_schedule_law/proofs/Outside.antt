-- A vCPU that is out has pushed all that it opened.
use Rattle.std.proofs.Common.{◌≡◌, ℕ, ◌+◌, ◌≤◌, Bool, true, false, cond, List, [], ◌∷◌, refl, subst, arith}
use Rattle.std.specs.Prelude.{◌==◌, None}
use Rattle.std.proofs.lemmas.Bool.{and_parts, or_parts, eqb-true}
use Rattle.dr_types.specs.declared.guest.Guest.{Guest}
use Rattle.dr_types.specs.declared.guest.Why.{Why}
use Rattle.dr_history.specs.declared.event.Event.{Event}
use Rattle.dr_history.specs.declared.event.Event.TheVariants.{Read, Write, Paint, Local, Halted, Opened, Pushed, Exited, Asked}
use Rattle.dr_history.specs.Entries.{opens, pushes}
use Rattle.dr_history.specs.Kinds.{is_asked, is_opened_of}
use Rattle.dr_history.specs.Legality.{IsLegalSoFar, broken}
use Rattle.dr_history.specs.Lookback.{count, before}
use Rattle.dr_history.specs.Rules.{exits_with_reason}
use Rattle.dr_history.specs.Vcpus.{in_guest, kicked}
use Rattle.dr_history_law.specs.Order.{last_opens_for}
use Rattle.dr_history_law.proofs.Kept.{keeps}
use Rattle.dr_history_law.proofs.Order.{unowed, open_count, none_owed}
use Rattle.dr_history_law.proofs.Outstanding.{more}

-- a vCPU that leaves has pushed all that it opened
exit_pushed : (guest : Guest) (past : List Event) (v : ℕ) (why : Why)
    → broken guest past (Exited v why) ≡ None → pushes v past ≡ opens v past
unfolding exits_with_reason
exit_pushed guest past v why h =
    eqb-true (pushes v past) (opens v past)
    (and_parts _ _ (and_parts _ _ (keeps guest past (Exited v why) h).exits_with_reason_holds).0).1

exit_case : (same inside : Bool) (o p : ℕ) → (same ≡ true → o ≤ p) → (inside ≡ false → o ≤ p)
    → cond same false inside ≡ false → o ≤ p
exit_case true inside o p f g h = f refl
exit_case false inside o p f g h = g h

own_exit : (guest : Guest) (past : List Event) (v w : ℕ) (why : Why)
    → broken guest past (Exited w why) ≡ None → (w == v) ≡ true → opens v past ≤ pushes v past
own_exit guest past v w why kept same =
    let all : pushes v past ≡ opens v past = subst (λ (u : ℕ). pushes u past ≡ opens u past)
    (eqb-true w v same) (exit_pushed guest past w why kept) in
    omega (arith, all)

added : (a b : ℕ) → a ≤ b + 0 → a ≤ b
added a b h = omega (arith, h)

-- a vCPU that is out has pushed all that it opened, but directly after an Opened
pub outside_pushed : (guest : Guest) (past : List Event) (v : ℕ) → IsLegalSoFar guest past
    → in_guest v past ≡ false → opens v past ≤ pushes v past + cond (last_opens_for v past) 1 0
outside_pushed guest [] v legal h = omega arith
outside_pushed guest (Opened w k q ∷ past) v legal h =
    open_count (w == v) (last_opens_for v past) (opens v past) (pushes v past)
    (unowed guest past v (Opened w k q) legal.0 refl) (outside_pushed guest past v legal.1 h)
outside_pushed guest (Pushed w k ∷ past) v legal h =
    let before : opens v past ≤ pushes v past = added (opens v past) (pushes v past)
    (none_owed (last_opens_for v past) (opens v past) (pushes v past)
    (unowed guest past v (Pushed w k) legal.0 refl) (outside_pushed guest past v legal.1 h)) in
    let now : opens v past ≤ cond (w == v) (pushes v past + 1) (pushes v past) =
    more (w == v) (opens v past) (pushes v past) before in
    omega (arith, now)
outside_pushed guest (Exited w why ∷ past) v legal h =
    let all : opens v past ≤ pushes v past =
    exit_case (w == v) (in_guest v past) (opens v past) (pushes v past) (own_exit guest past v w why legal.0)
    (λ out. added (opens v past) (pushes v past)
    (none_owed (last_opens_for v past) (opens v past) (pushes v past)
    (unowed guest past v (Exited w why) legal.0 refl) (outside_pushed guest past v legal.1 out))) h in
    omega (arith, all)
outside_pushed guest (Read w i space a x ∷ past) v legal h =
    none_owed (last_opens_for v past) (opens v past) (pushes v past)
    (unowed guest past v (Read w i space a x) legal.0 refl)
    (outside_pushed guest past v legal.1 (or_parts (w == v) (in_guest v past) h).1)
outside_pushed guest (Local w i ∷ past) v legal h =
    none_owed (last_opens_for v past) (opens v past) (pushes v past)
    (unowed guest past v (Local w i) legal.0 refl)
    (outside_pushed guest past v legal.1 (or_parts (w == v) (in_guest v past) h).1)
outside_pushed guest (Halted w i ∷ past) v legal h =
    none_owed (last_opens_for v past) (opens v past) (pushes v past)
    (unowed guest past v (Halted w i) legal.0 refl)
    (outside_pushed guest past v legal.1 (or_parts (w == v) (in_guest v past) h).1)
outside_pushed guest (Write w i space a l x ∷ past) v legal h =
    let parts = or_parts (w == v) (in_guest v past) h in
    none_owed (last_opens_for v past) (opens v past) (pushes v past)
    (unowed guest past v (Write w i space a l x) legal.0 parts.0) (outside_pushed guest past v legal.1 parts.1)
outside_pushed guest (Paint w i q b ∷ past) v legal h =
    let parts = or_parts (w == v) (in_guest v past) h in
    none_owed (last_opens_for v past) (opens v past) (pushes v past)
    (unowed guest past v (Paint w i q b) legal.0 parts.0) (outside_pushed guest past v legal.1 parts.1)
outside_pushed guest (e ∷ past) v legal h =
    none_owed (last_opens_for v past) (opens v past) (pushes v past) (unowed guest past v e legal.0 refl)
    (outside_pushed guest past v legal.1 h)

fewer_case : (cut one : Bool) (f : Event → Bool) (earlier rest : List Event)
    → count f rest ≤ count f earlier → count f (cond cut earlier rest) ≤ cond one (count f earlier + 1)
    (count f earlier)
fewer_case true true f earlier rest h = omega arith
fewer_case true false f earlier rest h = omega arith
fewer_case false true f earlier rest h = omega (arith, h)
fewer_case false false f earlier rest h = h

-- before the last Asked no more pass than in all
asked_few : (f : Event → Bool) (past : List Event) → count f (before is_asked past) ≤ count f past
asked_few f [] = omega arith
asked_few f (e ∷ past) = fewer_case (is_asked e) (f e) f past (before is_asked past) (asked_few f past)

-- a vCPU that isn't kicked has pushed all that it opened before the last Asked
pub unkicked_pushed : (guest : Guest) (past : List Event) (v : ℕ) → IsLegalSoFar guest past
    → kicked v past ≡ false → opens v (before is_asked past) ≤ pushes v past
unkicked_pushed guest [] v legal h = omega arith
unkicked_pushed guest (Asked r ∷ past) v legal h =
    added (opens v past) (pushes v past)
    (none_owed (last_opens_for v past) (opens v past) (pushes v past)
    (unowed guest past v (Asked r) legal.0 refl) (outside_pushed guest past v legal.1 h))
unkicked_pushed guest (Exited w why ∷ past) v legal h =
    exit_case (w == v) (kicked v past) (opens v (before is_asked past)) (pushes v past)
    (λ same. let all : opens v past ≤ pushes v past = own_exit guest past v w why legal.0 same in
    omega (arith, all, asked_few (is_opened_of v) past))
    (unkicked_pushed guest past v legal.1) h
unkicked_pushed guest (Pushed w k ∷ past) v legal h =
    more (w == v) (opens v (before is_asked past)) (pushes v past) (unkicked_pushed guest past v legal.1 h)
unkicked_pushed guest (e ∷ past) v legal h = unkicked_pushed guest past v legal.1 h
