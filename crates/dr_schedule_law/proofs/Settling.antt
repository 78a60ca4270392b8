-- A settling of what was pushed and isn't deposited leaves a reap, and one that is cut off a part of it.
use Rattle.std.proofs.Common.{◌≡◌, ℕ, suc, Bool, true, false, cond, ◌<◌, ◌≤◌, List, ◌∷◌, ap, sym, subst, ◌∙◌, arith, inl, inr}
use Rattle.std.specs.Prelude.{Option}
use Rattle.std.proofs.lemmas.Bool.{ltb-true}
use Rattle.dr_types.specs.declared.guest.Guest.{Guest}
use Rattle.dr_types.specs.Scripts.{vcpu_count}
use Rattle.dr_history.specs.declared.event.Event.{Event}
use Rattle.dr_history.specs.Entries.{pushes, used}
use Rattle.dr_history.specs.Legality.{IsLegalSoFar}
use Rattle.dr_schedule_law.specs.Settled.{Range, in_order, deposited_all, flushed, Settles, SettlesPart, DepositsPart, ResetsBelow, ResetsPart}
use Rattle.dr_schedule_law.specs.Reaps.{is_reaped, AreFirstDeposited, AreDepositedUpTo, AreRests, Extends, starts_after, rests_deposited, all_reset, all_reset_below, reaped}
use Rattle.dr_schedule_law.proofs.Depositing.{deposited_pushes, first_deposited, rests_are_ranges, deposited_append}
use Rattle.dr_schedule_law.proofs.Extending.{extends_then, deposits_extend, below_extends, flush_extends, while_extends}
use Rattle.dr_schedule_law.proofs.Resetting.{AreDepositsPushed, below_is, pushed_below, resets_few}
use Rattle.dr_schedule_law.proofs.Rests.{deposited_few}

pushed_first : (v n : ℕ) (past : List Event) → AreFirstDeposited v n past → n ≤ pushes v past
    → AreDepositsPushed v past
pushed_first v n past first le =
    record { each = λ k h. let lt : k < n = ltb-true k n (sym (first.is k) ∙ h) in omega (arith, lt, le) }

after_few : (r : Bool) (p n : ℕ) → n ≤ p → cond r p n ≤ p
after_few true p n le = omega arith
after_few false p n le = le

-- no more is deposited than pushed
few : (guest : Guest) (starts : ℕ → ℕ) (past : List Event) → IsLegalSoFar guest past
    → AreDepositedUpTo guest starts past → (v : ℕ) → v < vcpu_count guest → starts v ≤ pushes v past
few guest starts past legal step v lt = deposited_few guest past v (starts v) legal (step.each v lt)

-- after the deposits of a reap each vCPU's number is that after the reap
pub deposits_moved : (guest : Guest) (whose : Option ℕ) (starts : ℕ → ℕ) (past : List Event)
    → IsLegalSoFar guest past → AreDepositedUpTo guest starts past
    → AreDepositedUpTo guest (starts_after whose starts past) (rests_deposited whose (vcpu_count guest) past)
deposits_moved guest whose starts past legal step = record {
  each = λ v lt. first_deposited whose starts (vcpu_count guest) v past lt
      (few guest starts past legal step v lt) (step.each v lt);
}

-- and all that is deposited is pushed
pub deposits_pushed : (guest : Guest) (whose : Option ℕ) (starts : ℕ → ℕ) (past : List Event)
    → IsLegalSoFar guest past → AreDepositedUpTo guest starts past → (v : ℕ) → v < vcpu_count guest
    → AreDepositsPushed v (rests_deposited whose (vcpu_count guest) past)
deposits_pushed guest whose starts past legal step v lt =
    let same : pushes v (rests_deposited whose (vcpu_count guest) past) ≡ pushes v past =
    deposited_pushes whose (vcpu_count guest) v past in
    let le : starts_after whose starts past v ≤ pushes v past =
    after_few (is_reaped whose v) (pushes v past) (starts v) (few guest starts past legal step v lt) in
    pushed_first v (starts_after whose starts past v) (rests_deposited whose (vcpu_count guest) past)
    ((deposits_moved guest whose starts past legal step).each v lt) (omega (arith, same, le))

-- A settling of the rests leaves a reap.
pub settles_reaps : (guest : Guest) (whose : Option ℕ) (starts : ℕ → ℕ) (rs : List Range)
    (old new : List Event) (n : ℕ) → IsLegalSoFar guest old → AreDepositedUpTo guest starts old
    → AreRests guest whose starts rs old → Settles guest rs old new n → new ≡ reaped guest whose old
unfolding reaped
settles_reaps guest whose starts rs old new n legal step rests settled =
    let ranges = rests_are_ranges guest whose starts rs (vcpu_count guest) old (omega arith) rests step
    (few guest starts old legal step) in
    let reset : ResetsBelow (vcpu_count guest) (rests_deposited whose (vcpu_count guest) old) settled.mid n =
    subst (λ (xs : List Event). ResetsBelow (vcpu_count guest) xs settled.mid n) (sym ranges)
    settled.resets in
    settled.past
    ∙ ap (flushed guest)
    (sym (below_is (vcpu_count guest) n (rests_deposited whose (vcpu_count guest) old) settled.mid
    (deposits_pushed guest whose starts old legal step) reset))

-- some of the deposits
cut_deposits : (guest : Guest) (whose : Option ℕ) (order : List Range) (old new : List Event)
    → rests_deposited whose (vcpu_count guest) old ≡ deposited_all order old → DepositsPart order old new
    → Extends new (reaped guest whose old)
unfolding reaped
cut_deposits guest whose order old new ranges part =
    let all : List Event = rests_deposited whose (vcpu_count guest) old in
    let whole : all ≡ deposited_all (part.next ∷ part.rest) new =
    ranges ∙ ap (λ (rs : List Range). deposited_all rs old) part.deposits.parts
    ∙ deposited_append part.deposits.done (part.next ∷ part.rest) old
    ∙ ap (deposited_all (part.next ∷ part.rest)) (sym part.deposits.past) in
    extends_then new all (flushed guest (all_reset_below (vcpu_count guest) all))
    (subst (Extends new) (sym whole) (deposits_extend (part.next ∷ part.rest) new))
    (extends_then all (all_reset_below (vcpu_count guest) all)
    (flushed guest (all_reset_below (vcpu_count guest) all))
    (below_extends 0 (vcpu_count guest) all (omega arith))
    (flush_extends guest (all_reset_below (vcpu_count guest) all)))

-- some of the resets
cut_resets : (guest : Guest) (past new : List Event)
    → ((v : ℕ) → v < vcpu_count guest → AreDepositsPushed v past) → ResetsPart (vcpu_count guest) past new
    → Extends new (all_reset_below (vcpu_count guest) past)
cut_resets guest past new pushed part =
    let v : ℕ = part.vcpu in
    let before : all_reset_below v past ≡ part.mid = below_is v part.before past part.mid
    (λ u lt. pushed u (let w = part.within in omega (arith, lt, w))) part.below in
    let own : AreDepositsPushed v part.mid = subst (AreDepositsPushed v) before
    (pushed_below v v past (pushed v part.within)) in
    let some : Extends new (all_reset v part.mid) =
    subst (λ (xs : List Event). Extends xs (all_reset v part.mid)) (sym part.here.resets.past)
    (while_extends v part.here.count (used v part.mid) part.mid part.here.resets.due
    (resets_few v part.here.count part.mid own part.here.resets.due)) in
    extends_then new (all_reset_below (suc v) past) (all_reset_below (vcpu_count guest) past)
    (subst (λ (xs : List Event). Extends new (all_reset v xs)) (sym before) some)
    (below_extends (suc v) (vcpu_count guest) past (let w = part.within in omega (arith, w)))

-- A settling of the rests that is cut off leaves a part of a reap.
pub settling_cut : (guest : Guest) (whose : Option ℕ) (starts : ℕ → ℕ) (rs : List Range)
    (old new : List Event) → IsLegalSoFar guest old → AreDepositedUpTo guest starts old
    → AreRests guest whose starts rs old → SettlesPart guest rs old new
    → Extends new (reaped guest whose old)
unfolding reaped
settling_cut guest whose starts rs old new legal step rests part =
    let all : List Event = rests_deposited whose (vcpu_count guest) old in
    let ranges : all ≡ deposited_all (in_order (vcpu_count guest) rs) old =
    rests_are_ranges guest whose starts rs (vcpu_count guest) old (omega arith) rests step
    (few guest starts old legal step) in
    let pushed = deposits_pushed guest whose starts old legal step in
    elim part [
      | inl d ↦ cut_deposits guest whose (in_order (vcpu_count guest) rs) old new ranges d
      | inr (inl r) ↦
          extends_then new (all_reset_below (vcpu_count guest) all)
          (flushed guest (all_reset_below (vcpu_count guest) all))
          (cut_resets guest all new pushed
          (subst (λ (xs : List Event). ResetsPart (vcpu_count guest) xs new) (sym ranges) r))
          (flush_extends guest (all_reset_below (vcpu_count guest) all))
      | inr (inr f) ↦
          let done : all_reset_below (vcpu_count guest) all ≡ new =
          below_is (vcpu_count guest) f.count all new pushed
          (subst (λ (xs : List Event). ResetsBelow (vcpu_count guest) xs new f.count) (sym ranges)
          f.resets) in
          subst (λ (xs : List Event). Extends new (flushed guest xs)) (sym done) (flush_extends guest new)
    ]
