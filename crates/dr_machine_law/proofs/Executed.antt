-- What a vCPU's turn leaves in which it executes.
use Rattle.std.proofs.Common.{◌≡◌, ◌≢◌, ℕ, ◌+◌, true, List, ◌∷◌, Option, Some, None, is_some, refl}
use Rattle.std.proofs.lemmas.Bool.{false≢true}
use Rattle.dr_types.specs.declared.guest.Guest.{Guest}
use Rattle.dr_types.specs.Scripts.{operation}
use Rattle.dr_history.specs.declared.event.Event.{Event}
use Rattle.dr_history.specs.declared.event.Event.TheVariants.{Opened, Filled}
use Rattle.dr_history.specs.Entries.{opens}
use Rattle.dr_history.specs.Execution.{ops}
use Rattle.dr_history.specs.Protection.{started}
use Rattle.dr_history.specs.Vcpus.{in_guest}
use Rattle.dr_turns.specs.Turns.{executed, after_op}
use Rattle.dr_turns_law.proofs.Executing.{by_executed}
use Rattle.dr_machine_law.proofs.Events.{op_leaves, counts_own, counts_others}
use Rattle.dr_machine_law.proofs.Pushing.{by_full}

no_none : {X : Type 0} (o : Option X) → is_some o ≡ true → o ≡ None → ⊥
no_none None s h = false≢true s
no_none (Some x) s h = cc

-- Start stands where it stood
pub started_after : (guest : Guest) (v : ℕ) (past : List Event) → started (after_op guest v past) ≡ started past
started_after guest v past =
    by_full (λ (xs : List Event). started xs ≡ started past) guest v (executed guest v past) (λ k xs h. h)
    (by_executed (λ (xs : List Event). started xs ≡ started past) guest past v
    (λ none. refl) (λ e is. (op_leaves v past e is).started_stays)
    (λ e page is. (op_leaves v (Filled v page ∷ past) e is).started_stays)
    (λ e page is. (op_leaves v (Opened v (opens v past) page ∷ past) e is).started_stays))

-- the vCPU has executed one op more
pub ops_after : (guest : Guest) (v : ℕ) (past : List Event) → is_some (operation guest v (ops v past)) ≡ true → ops v (after_op guest v past) ≡ ops v past + 1
ops_after guest v past some =
    by_full (λ (xs : List Event). ops v xs ≡ ops v past + 1) guest v (executed guest v past) (λ k xs h. h)
    (by_executed (λ (xs : List Event). ops v xs ≡ ops v past + 1) guest past v
    (λ none. absurd (no_none (operation guest v (ops v past)) some none))
    (λ e is. counts_own v past e is)
    (λ e page is. counts_own v (Filled v page ∷ past) e is)
    (λ e page is. counts_own v (Opened v (opens v past) page ∷ past) e is))

-- and each other as many as before
pub others_after : (guest : Guest) (v u : ℕ) (past : List Event) → u ≢ v → ops u (after_op guest v past) ≡ ops u past
others_after guest v u past ne =
    by_full (λ (xs : List Event). ops u xs ≡ ops u past) guest v (executed guest v past) (λ k xs h. h)
    (by_executed (λ (xs : List Event). ops u xs ≡ ops u past) guest past v
    (λ none. refl)
    (λ e is. counts_others v u past e is ne)
    (λ e page is. counts_others v u (Filled v page ∷ past) e is ne)
    (λ e page is. counts_others v u (Opened v (opens v past) page ∷ past) e is ne))

-- it is in the guest
pub inside_after : (guest : Guest) (v : ℕ) (past : List Event) → is_some (operation guest v (ops v past)) ≡ true → in_guest v (after_op guest v past) ≡ true
inside_after guest v past some =
    by_full (λ (xs : List Event). in_guest v xs ≡ true) guest v (executed guest v past) (λ k xs h. h)
    (by_executed (λ (xs : List Event). in_guest v xs ≡ true) guest past v
    (λ none. absurd (no_none (operation guest v (ops v past)) some none))
    (λ e is. (op_leaves v past e is).enters)
    (λ e page is. (op_leaves v (Filled v page ∷ past) e is).enters)
    (λ e page is. (op_leaves v (Opened v (opens v past) page ∷ past) e is).enters))
