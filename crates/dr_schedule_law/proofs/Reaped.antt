-- What a reap leaves: of each vCPU that is reaped all that it pushed is deposited and reset.
use Rattle.std.proofs.Common.{◌≡◌, ℕ, ◌<◌, ◌≤◌, true, false, cond, List, ◌∷◌, refl, ap, sym, ◌∙◌, arith}
use Rattle.std.specs.Prelude.{Option}
use Rattle.std.proofs.lemmas.Bool.{ltb-false}
use Rattle.dr_types.specs.declared.guest.Guest.{Guest}
use Rattle.dr_types.specs.Scripts.{vcpu_count}
use Rattle.dr_history.specs.declared.event.Event.{Event}
use Rattle.dr_history.specs.declared.event.Event.TheVariants.{Deposited, Reset, Flushed}
use Rattle.dr_history.specs.Entries.{pushes, resets, used}
use Rattle.dr_history.specs.Legality.{IsLegalSoFar}
use Rattle.dr_turns_law.specs.Deposits.{next_deposited}
use Rattle.dr_schedule_law.specs.Reaps.{is_reaped, AreFirstDeposited, AreDepositedUpTo, IsReap, starts_after, rests_deposited, all_reset_below, reaped}
use Rattle.dr_schedule_law.proofs.Depositing.{deposited_pushes}
use Rattle.dr_schedule_law.proofs.Reaping.{by_all_reset, by_flushed, by_reaped}
use Rattle.dr_schedule_law.proofs.Resetting.{all_none}
use Rattle.dr_schedule_law.proofs.KeptDeposits.{same_deposits, flush_keeps_deposits}
use Rattle.dr_schedule_law.proofs.Settling.{deposits_moved, deposits_pushed}

reset_step : (guest : Guest) (whose : Option ℕ) (starts : ℕ → ℕ) (past : List Event)
    → IsLegalSoFar guest past → AreDepositedUpTo guest starts past
    → AreDepositedUpTo guest (starts_after whose starts past)
    (all_reset_below (vcpu_count guest) (rests_deposited whose (vcpu_count guest) past))
reset_step guest whose starts past legal step =
    by_all_reset (AreDepositedUpTo guest (starts_after whose starts past)) (vcpu_count guest)
    (rests_deposited whose (vcpu_count guest) past) (deposits_moved guest whose starts past legal step)
    (λ v k xs. same_deposits guest (starts_after whose starts past) xs (Reset v k ∷ xs) (λ u j. refl))

-- after a reap all that was pushed is deposited, of each vCPU that is reaped, and of the others what was
pub reap_moves_deposits : (guest : Guest) (whose : Option ℕ) (starts : ℕ → ℕ) (past : List Event)
    → IsLegalSoFar guest past → AreDepositedUpTo guest starts past
    → AreDepositedUpTo guest (starts_after whose starts past) (reaped guest whose past)
unfolding reaped
reap_moves_deposits guest whose starts past legal step =
    let last : List Event = all_reset_below (vcpu_count guest)
    (rests_deposited whose (vcpu_count guest) past) in
    let reset : AreDepositedUpTo guest (starts_after whose starts past) last =
    reset_step guest whose starts past legal step in
    by_flushed (AreDepositedUpTo guest (starts_after whose starts past)) guest last reset
    (flush_keeps_deposits guest (starts_after whose starts past) last reset)

reset_pushes : (n v : ℕ) (past : List Event) → pushes v (all_reset_below n past) ≡ pushes v past
reset_pushes n v past =
    by_all_reset (λ (xs : List Event). pushes v xs ≡ pushes v past) n past refl (λ w k xs same. same)

pushes_on : (v n : ℕ) (e : Event) (xs : List Event) → IsReap e → pushes v xs ≡ n → pushes v (e ∷ xs) ≡ n
pushes_on v n (Deposited w from to) xs is same = same
pushes_on v n (Reset w k) xs is same = same
pushes_on v n Flushed xs is same = same
pushes_on v n e xs is same = absurd is

-- a reap pushes nothing
pub reap_pushes : (guest : Guest) (whose : Option ℕ) (past : List Event) (v : ℕ)
    → pushes v (reaped guest whose past) ≡ pushes v past
reap_pushes guest whose past v =
    by_reaped (λ (xs : List Event). pushes v xs ≡ pushes v past) guest whose past refl
    (pushes_on v (pushes v past))

none_used : (v n : ℕ) (past : List Event) → AreFirstDeposited v n past → next_deposited v past ≡ false
    → pushes v past ≤ n → used v past ≡ 0
unfolding next_deposited
none_used v n past first none le =
    let all : n ≤ resets v past = ltb-false (resets v past) n (sym (first.is (resets v past)) ∙ none) in
    omega (arith, all, le)

-- after a reap no entry is used of a vCPU that is reaped
pub reap_uses_none : (guest : Guest) (whose : Option ℕ) (starts : ℕ → ℕ) (past : List Event) (v : ℕ)
    → IsLegalSoFar guest past → AreDepositedUpTo guest starts past → v < vcpu_count guest
    → is_reaped whose v ≡ true → used v (reaped guest whose past) ≡ 0
unfolding reaped
reap_uses_none guest whose starts past v legal step lt is =
    let all : List Event = rests_deposited whose (vcpu_count guest) past in
    let last : List Event = all_reset_below (vcpu_count guest) all in
    let none : used v last ≡ 0 =
    none_used v (starts_after whose starts past v) last
    ((reset_step guest whose starts past legal step).each v lt)
    (all_none (vcpu_count guest) v all (deposits_pushed guest whose starts past legal step) lt)
    (let same : pushes v last ≡ pushes v past = reset_pushes (vcpu_count guest) v all
    ∙ deposited_pushes whose (vcpu_count guest) v past in
    let number : starts_after whose starts past v ≡ pushes v past =
    ap (λ b. cond b (pushes v past) (starts v)) is in
    omega (arith, same, number)) in
    by_flushed (λ (xs : List Event). used v xs ≡ 0) guest last none none
