-- Where a vCPU is after its op, and what its exit leaves.
use Rattle.std.proofs.Common.{◌≡◌, ℕ, true, false, cond, List, ◌∷◌, Option, Some, None, is_some, ap, ◌∙◌}
use Rattle.std.specs.Prelude.{◌==◌, ◌||◌}
use Rattle.std.proofs.lemmas.Bool.{eq-eqb, or_left, false≢true}
use Rattle.dr_types.specs.declared.guest.Guest.{Guest}
use Rattle.dr_types.specs.declared.guest.Op.{Op}
use Rattle.dr_types.specs.Scripts.{operation}
use Rattle.dr_history.specs.declared.event.Event.{Event}
use Rattle.dr_history.specs.declared.event.Event.TheVariants.{Read, Write, Paint, Local, Halted, Opened, Filled}
use Rattle.dr_history.specs.Entries.{opens}
use Rattle.dr_history.specs.Execution.{ops}
use Rattle.dr_history.specs.Rules.{vcpu_of_op}
use Rattle.dr_history.specs.Vcpus.{in_guest}
use Rattle.dr_history_law.specs.Room.{unpushed}
use Rattle.dr_turns_law.proofs.Buffers.{inside_pushed}
use Rattle.dr_turns_law.proofs.Executing.{by_executed}
use Rattle.dr_turns.specs.Buffers.{all_pushed}
use Rattle.dr_turns.specs.Turns.{executed, after_op, after_exit}
use Rattle.dr_schedule_law.specs.Schedule.{exited}
use Rattle.dr_schedule_law.proofs.Reaping.{by_test}

-- a vCPU in the guest leaves
pub exited_inside : (guest : Guest) (v : ℕ) (past : List Event) → in_guest v past ≡ true
    → exited guest v past ≡ after_exit guest v past
exited_inside guest v past inside = ap (λ b. cond b (after_exit guest v past) past) inside

-- one that is out stays out
pub exited_outside : (guest : Guest) (v : ℕ) (past : List Event) → in_guest v past ≡ false
    → exited guest v past ≡ past
exited_outside guest v past out = ap (λ b. cond b (after_exit guest v past) past) out

same_number : (w v : ℕ) → Some w ≡ Some v → w ≡ v
same_number w v is = cc

own_op : (w v : ℕ) (past : List Event) → Some w ≡ Some v → (w == v || in_guest v past) ≡ true
own_op w v past is = or_left (w == v) (in_guest v past) (eq-eqb w v (same_number w v is))

inside_after : (e : Event) (v : ℕ) (past : List Event) → vcpu_of_op e ≡ Some v → in_guest v (e ∷ past) ≡ true
inside_after (Read w i space a x) v past is = own_op w v past is
inside_after (Write w i space a l x) v past is = own_op w v past is
inside_after (Paint w i q b) v past is = own_op w v past is
inside_after (Local w i) v past is = own_op w v past is
inside_after (Halted w i) v past is = own_op w v past is
inside_after e v past is = cc

-- where there is an op
pub no_op : (o : Option Op) → is_some o ≡ true → o ≡ None → ⊥
no_op None s h = false≢true s
no_op (Some x) s h = cc

-- after its op a vCPU is in the guest
pub inside_after_op : (guest : Guest) (past : List Event) (v : ℕ)
    → is_some (operation guest v (ops v past)) ≡ true → in_guest v (after_op guest v past) ≡ true
inside_after_op guest past v some =
    let inside : in_guest v (executed guest v past) ≡ true =
    by_executed (λ (xs : List Event). in_guest v xs ≡ true) guest past v
    (λ none. absurd (no_op (operation guest v (ops v past)) some none))
    (λ e is. inside_after e v past is)
    (λ e page is. inside_after e v (Filled v page ∷ past) is)
    (λ e page is. inside_after e v (Opened v (opens v past) page ∷ past) is) in
    by_test (λ (xs : List Event). in_guest v xs ≡ true) _ (all_pushed v (executed guest v past))
    (executed guest v past)
    (inside_pushed v v (unpushed v (executed guest v past)) (executed guest v past) ∙ inside) inside
