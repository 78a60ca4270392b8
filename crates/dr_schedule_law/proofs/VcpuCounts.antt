-- How many events a vCPU has at most, by its operations.
use Rattle.std.proofs.Common.{◌≡◌, ℕ, ◌+◌, ◌<◌, ◌≤◌, Bool, true, false, cond, List, [], ◌∷◌, None, refl, subst, arith}
use Rattle.std.specs.Prelude.{◌==◌, ◌||◌}
use Rattle.std.proofs.lemmas.Bool.{and_parts, eqb-true, false≢true}
use Rattle.dr_types.specs.declared.guest.Guest.{Guest}
use Rattle.dr_types.specs.declared.guest.Why.{Why}
use Rattle.dr_history.specs.declared.event.Event.{Event}
use Rattle.dr_history.specs.declared.event.Event.TheVariants.{Write, Paint, Pushed, Exited}
use Rattle.dr_history.specs.Kinds.{is_op_of}
use Rattle.dr_history.specs.Entries.{opens, pushes}
use Rattle.dr_history.specs.Execution.{ops}
use Rattle.dr_history.specs.Vcpus.{in_guest}
use Rattle.dr_history.specs.Rules.{exits_with_reason}
use Rattle.dr_history.specs.Legality.{IsLegalSoFar, broken}
use Rattle.dr_history_law.specs.Order.{is_write_of, writes, last_opens_for}
use Rattle.dr_history_law.proofs.Kept.{keeps, pushes_facts}
use Rattle.dr_history_law.proofs.Outstanding.{more, one_more}
use Rattle.dr_history_law.proofs.Order.{opened_in_order, unowed, none_owed}
use Rattle.dr_schedule_law.specs.Counts.{flag, exits}

write_is_op : (v : ℕ) (e : Event) → is_write_of v e ≡ true → is_op_of v e ≡ true
write_is_op v (Write w i space address len value) h = h
write_is_op v (Paint w i page byte) h = h
write_is_op v e h = absurd (false≢true h)

fewer_case : (p q : Bool) (a b : ℕ) → (p ≡ true → q ≡ true) → a ≤ b → cond p (a + 1) a ≤ cond q (b + 1) b
fewer_case true q a b f h = rw (f refl) (omega arith)
fewer_case false true a b f h = omega arith
fewer_case false false a b f h = h

-- each write is an operation
writes_few : (past : List Event) (v : ℕ) → writes v past ≤ ops v past
writes_few [] v = omega arith
writes_few (e ∷ past) v =
    fewer_case (is_write_of v e) (is_op_of v e) (writes v past) (ops v past) (write_is_op v e)
    (writes_few past v)

-- an entry is pushed after the write that it was opened for
push_after : (guest : Guest) (past : List Event) (w k : ℕ) → IsLegalSoFar guest past
    → broken guest past (Pushed w k) ≡ None → pushes w past < ops w past
push_after guest past w k legal h =
    let facts = pushes_facts guest past w k h in
    let number : k ≡ pushes w past = facts.number in
    let opened : k < opens w past = facts.opened in
    let written : opens w past ≤ writes w past + 0 =
    none_owed (last_opens_for w past) (opens w past) (writes w past)
    (unowed guest past w (Pushed w k) h refl) (opened_in_order guest past w legal) in
    omega (arith, number, opened, written, writes_few past w)

-- no more entries are pushed than operations executed
pub pushes_few : (guest : Guest) (past : List Event) (v : ℕ) → IsLegalSoFar guest past
    → pushes v past ≤ ops v past
pushes_few guest [] v legal = omega arith
pushes_few guest (Pushed w k ∷ past) v legal =
    one_more (w == v) (pushes v past) (ops v past)
    (λ s. subst (λ (u : ℕ). pushes u past < ops u past) (eqb-true w v s)
    (push_after guest past w k legal.1 legal.0))
    (pushes_few guest past v legal.1)
pushes_few guest (e ∷ past) v legal =
    more (is_op_of v e) (pushes v past) (ops v past) (pushes_few guest past v legal.1)

exit_inside : (guest : Guest) (past : List Event) (w : ℕ) (why : Why)
    → broken guest past (Exited w why) ≡ None → in_guest w past ≡ true
unfolding exits_with_reason
exit_inside guest past w why h =
    (and_parts _ _ (and_parts _ _ (keeps guest past (Exited w why) h).exits_with_reason_holds).0).0

enter_case : (same inside : Bool) (x o : ℕ) → x + flag inside ≤ o
    → x + flag (same || inside) ≤ cond same (o + 1) o
enter_case true true x o h = omega arith
enter_case true false x o h = omega arith
enter_case false inside x o h = h

leave_case : (same inside : Bool) (x o : ℕ) → (same ≡ true → inside ≡ true) → x + flag inside ≤ o
    → cond same (x + 1) x + flag (cond same false inside) ≤ o
leave_case true true x o f h = omega arith
leave_case true false x o f h = absurd (false≢true (f refl))
leave_case false inside x o f h = h

-- an operation comes between two exits
pub exits_few : (guest : Guest) (past : List Event) (v : ℕ) → IsLegalSoFar guest past
    → exits v past + flag (in_guest v past) ≤ ops v past
exits_few guest [] v legal = omega arith
exits_few guest (Exited w why ∷ past) v legal =
    leave_case (w == v) (in_guest v past) (exits v past) (ops v past)
    (λ s. subst (λ (u : ℕ). in_guest u past ≡ true) (eqb-true w v s) (exit_inside guest past w why legal.0))
    (exits_few guest past v legal.1)
exits_few guest (e ∷ past) v legal =
    enter_case (is_op_of v e) (in_guest v past) (exits v past) (ops v past) (exits_few guest past v legal.1)
