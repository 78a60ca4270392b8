-- How far entries are deposited stays, but for a reap.
use Rattle.std.proofs.Common.{◌≡◌, ℕ, zero, suc, ◌<◌, List, [], ◌∷◌, Some, refl, arith, sym, subst, ◌∙◌}
use Rattle.std.specs.List.{list_any}
use Rattle.std.proofs.lemmas.Bool.{le-ltb}
use Rattle.dr_types.specs.declared.guest.Guest.{Guest}
use Rattle.dr_types.specs.Scripts.{vcpu_count}
use Rattle.dr_history.specs.declared.event.Event.{Event}
use Rattle.dr_history.specs.declared.event.Event.TheVariants.{Read, Write, Paint, Local, Halted, Opened, Filled, Flushed}
use Rattle.dr_history.specs.Entries.{opens}
use Rattle.dr_history.specs.Rules.{vcpu_of_op, deposits_entry}
use Rattle.dr_history.specs.Vcpus.{in_guest}
use Rattle.dr_history_law.specs.Room.{unpushed}
use Rattle.dr_turns_law.proofs.Whole.{advanced_is_aside}
use Rattle.dr_turns_law.proofs.Executing.{by_executed}
use Rattle.dr_turns.specs.Buffers.{pushed_after, all_pushed}
use Rattle.dr_turns.specs.Due.{advanced}
use Rattle.dr_turns.specs.Turns.{executed, after_op, after_exit}
use Rattle.dr_schedule_law.specs.Reaps.{AreFirstDeposited, AreDepositedUpTo}
use Rattle.dr_schedule_law.specs.Schedule.{exited}
use Rattle.dr_schedule_law.proofs.Reaping.{by_test}

-- how far they are deposited is the same where the same are
pub same_deposits : (guest : Guest) (starts : ℕ → ℕ) (old new : List Event)
    → ((v k : ℕ) → list_any (deposits_entry v k) new ≡ list_any (deposits_entry v k) old)
    → AreDepositedUpTo guest starts old → AreDepositedUpTo guest starts new
same_deposits guest starts old new same step =
    record { each = λ v lt. record { is = λ k. same v k ∙ (step.each v lt).is k } }

-- before any event none is deposited
pub no_deposits : (guest : Guest) → AreDepositedUpTo guest (λ v. 0) []
no_deposits guest = record { each = λ v lt. record { is = λ k. sym (le-ltb k 0 (omega arith)) } }

-- the numbers may be given in another form
pub advance_renamed : (guest : Guest) (starts ends : ℕ → ℕ) (past : List Event) → AreDepositedUpTo guest starts past
    → ((v : ℕ) → v < vcpu_count guest → starts v ≡ ends v) → AreDepositedUpTo guest ends past
advance_renamed guest starts ends past step same =
    record { each = λ v lt. subst (λ (n : ℕ). AreFirstDeposited v n past) (same v lt) (step.each v lt) }

-- a flush deposits nothing
pub flush_keeps_deposits : (guest : Guest) (starts : ℕ → ℕ) (past : List Event) → AreDepositedUpTo guest starts past
    → AreDepositedUpTo guest starts (Flushed ∷ past)
flush_keeps_deposits guest starts past step = same_deposits guest starts past (Flushed ∷ past) (λ v k. refl) step

-- nor does an advance
pub advance_keeps_deposits : (guest : Guest) (starts : ℕ → ℕ) (now : ℕ) (past : List Event)
    → AreDepositedUpTo guest starts past → AreDepositedUpTo guest starts (advanced guest now past).1
advance_keeps_deposits guest starts now past step =
    same_deposits guest starts past (advanced guest now past).1 (advanced_is_aside guest now past).deposited
    step

op_deposits : (e : Event) (v u k : ℕ) (past : List Event) → vcpu_of_op e ≡ Some v
    → list_any (deposits_entry u k) (e ∷ past) ≡ list_any (deposits_entry u k) past
op_deposits (Read w i space a x) v u k past is = refl
op_deposits (Write w i space a l x) v u k past is = refl
op_deposits (Paint w i q b) v u k past is = refl
op_deposits (Local w i) v u k past is = refl
op_deposits (Halted w i) v u k past is = refl
op_deposits e v u k past is = cc

pushed_deposits : (v n u k : ℕ) (past : List Event) → list_any (deposits_entry u k)
    (pushed_after v n past) ≡ list_any (deposits_entry u k) past
pushed_deposits v zero u k past = refl
pushed_deposits v (suc n) u k past = pushed_deposits v n u k past

-- nor does an op
pub op_keeps_deposits : (guest : Guest) (starts : ℕ → ℕ) (past : List Event) (v : ℕ)
    → AreDepositedUpTo guest starts past → AreDepositedUpTo guest starts (after_op guest v past)
op_keeps_deposits guest starts past v step =
    let now : (u k : ℕ) → list_any (deposits_entry u k) (executed guest v past) ≡ list_any
    (deposits_entry u k) past =
    λ u k.
    by_executed (λ (xs : List Event). list_any (deposits_entry u k) xs ≡ list_any (deposits_entry u k) past)
    guest past v (λ none. refl)
    (λ e is. op_deposits e v u k past is)
    (λ e page is. op_deposits e v u k (Filled v page ∷ past) is)
    (λ e page is. op_deposits e v u k (Opened v (opens v past) page ∷ past) is) in
    by_test (AreDepositedUpTo guest starts) _ (all_pushed v (executed guest v past)) (executed guest v past)
    (same_deposits guest starts past (all_pushed v (executed guest v past))
    (λ u k. pushed_deposits v (unpushed v (executed guest v past)) u k (executed guest v past) ∙ now u k)
    step)
    (same_deposits guest starts past (executed guest v past) now step)

-- nor does an exit
pub exit_keeps_deposits : (guest : Guest) (starts : ℕ → ℕ) (past : List Event) (v : ℕ)
    → AreDepositedUpTo guest starts past → AreDepositedUpTo guest starts (after_exit guest v past)
exit_keeps_deposits guest starts past v step =
    same_deposits guest starts past (after_exit guest v past)
    (λ u k. pushed_deposits v (unpushed v past) u k past) step

-- also where it does nothing
pub exited_keeps_deposits : (guest : Guest) (starts : ℕ → ℕ) (past : List Event) (v : ℕ)
    → AreDepositedUpTo guest starts past → AreDepositedUpTo guest starts (exited guest v past)
exited_keeps_deposits guest starts past v step =
    by_test (AreDepositedUpTo guest starts) (in_guest v past) (after_exit guest v past) past
    (exit_keeps_deposits guest starts past v step) step
