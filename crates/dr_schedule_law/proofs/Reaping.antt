-- What a reap appends: deposits, resets and a flush alone.
use Rattle.std.proofs.Common.{ℕ, zero, suc, Bool, true, false, cond, List, ◌∷◌}
use Rattle.std.specs.Prelude.{Option, Some, None}
use Rattle.dr_types.specs.declared.guest.Guest.{Guest}
use Rattle.dr_types.specs.Scripts.{vcpu_count}
use Rattle.dr_history.specs.declared.event.Event.{Event}
use Rattle.dr_history.specs.declared.event.Event.TheVariants.{Deposited, Reset, Flushed}
use Rattle.dr_history.specs.Entries.{pushes, resets, used}
use Rattle.dr_turns_law.specs.Deposits.{next_deposited}
use Rattle.dr_turns.specs.Due.{some_closing}
use Rattle.dr_schedule_law.specs.Settled.{flushed}
use Rattle.dr_schedule_law.specs.Reaps.{is_reaped, first_undeposited, deposited_from, rest_deposited, rests_deposited, reset_while, all_reset_below, reaped, IsReap}

-- what holds of both branches of a test
pub by_test : (P : List Event → Type 0) (test : Bool) (a b : List Event) → P a → P b → P (cond test a b)
by_test P true a b h k = h
by_test P false a b h k = k

by_rest : (P : List Event → Type 0) (v : ℕ) (o : Option ℕ) (past : List Event) → P past
    → ((v from to : ℕ) (xs : List Event) → P xs → P (Deposited v from to ∷ xs))
    → P (deposited_from v o past)
by_rest P v None past h on = h
by_rest P v (Some k) past h on = on v k (pushes v past) past h

-- what each Deposited keeps, the deposits of a reap keep
pub by_deposited : (P : List Event → Type 0) (whose : Option ℕ) (n : ℕ) (past : List Event) → P past
    → ((v from to : ℕ) (xs : List Event) → P xs → P (Deposited v from to ∷ xs))
    → P (rests_deposited whose n past)
by_deposited P whose zero past h on = h
by_deposited P whose (suc n) past h on =
    let before : P (rests_deposited whose n past) = by_deposited P whose n past h on in
    by_test P (is_reaped whose n) (rest_deposited n (rests_deposited whose n past))
    (rests_deposited whose n past)
    (by_rest P n (first_undeposited n (rests_deposited whose n past)) (rests_deposited whose n past) before
    on) before

-- what each Reset keeps, the resets of one vCPU keep
pub by_reset_while : (P : List Event → Type 0) (v n : ℕ) (past : List Event) → P past
    → ((v k : ℕ) (xs : List Event) → P xs → P (Reset v k ∷ xs)) → P (reset_while v n past)
by_reset_while P v zero past h on = h
by_reset_while P v (suc n) past h on =
    by_test P (next_deposited v past) (reset_while v n (Reset v (resets v past) ∷ past)) past
    (by_reset_while P v n (Reset v (resets v past) ∷ past) (on v (resets v past) past h) on) h

-- and so those of all
pub by_all_reset : (P : List Event → Type 0) (n : ℕ) (past : List Event) → P past
    → ((v k : ℕ) (xs : List Event) → P xs → P (Reset v k ∷ xs)) → P (all_reset_below n past)
by_all_reset P zero past h on = h
by_all_reset P (suc n) past h on =
    by_reset_while P n (used n (all_reset_below n past)) (all_reset_below n past)
    (by_all_reset P n past h on) on

-- what a Flushed keeps, a flush keeps where one comes
pub by_flushed : (P : List Event → Type 0) (guest : Guest) (past : List Event) → P past → P (Flushed ∷ past)
    → P (flushed guest past)
by_flushed P guest past h on = by_test P (some_closing guest past) (Flushed ∷ past) past on h

-- what each event of a reap keeps, the reap keeps
pub by_reaped : (P : List Event → Type 0) (guest : Guest) (whose : Option ℕ) (past : List Event) → P past
    → ((e : Event) (xs : List Event) → IsReap e → P xs → P (e ∷ xs)) → P (reaped guest whose past)
unfolding reaped
by_reaped P guest whose past h on =
    let deposited : P (rests_deposited whose (vcpu_count guest) past) =
    by_deposited P whose (vcpu_count guest) past h (λ v from to xs. on (Deposited v from to) xs tt) in
    let reset : P (all_reset_below (vcpu_count guest) (rests_deposited whose (vcpu_count guest) past)) =
    by_all_reset P (vcpu_count guest) (rests_deposited whose (vcpu_count guest) past) deposited
    (λ v k xs. on (Reset v k) xs tt) in
    by_flushed P guest (all_reset_below (vcpu_count guest) (rests_deposited whose (vcpu_count guest) past))
    reset
    (on Flushed (all_reset_below (vcpu_count guest) (rests_deposited whose (vcpu_count guest) past)) tt reset)
