-- What of a vCPU's entries isn't deposited, and what its deposit leaves.
use Rattle.std.proofs.Common.{◌≡◌, ℕ, zero, suc, ◌+◌, ◌-◌, ◌<◌, ◌≤◌, Bool, true, false, cond, List, ◌∷◌, refl, ap, sym, ◌∙◌, arith, inl, inr}
use Rattle.std.specs.Prelude.{◌==◌, ◌&&◌, not, nat_le, Option, Some, None}
use Rattle.std.specs.List.{list_any}
use Rattle.std.proofs.lemmas.Bool.{cases_lt, lt-ltb, le-ltb, leb-true, eq-eqb, ne_eqb}
use Rattle.dr_types.specs.declared.guest.Guest.{Guest}
use Rattle.dr_history.specs.declared.event.Event.{Event}
use Rattle.dr_history.specs.declared.event.Event.TheVariants.{Deposited}
use Rattle.dr_history.specs.Entries.{pushes}
use Rattle.dr_history.specs.Legality.{IsLegalSoFar}
use Rattle.dr_history.specs.Rules.{deposits_entry}
use Rattle.dr_history_law.proofs.Outstanding.{deposited_pushed}
use Rattle.dr_turns_law.proofs.Firsts.{first_found}
use Rattle.dr_turns_law.specs.Deposits.{first_twice}
use Rattle.dr_turns.specs.Firsts.{first_below}
use Rattle.dr_schedule_law.specs.Settled.{range_of, fresh_after, deposited_one}
use Rattle.dr_schedule_law.specs.Reaps.{AreFirstDeposited, rest_from, first_undeposited, deposited_from, rest_deposited}

-- no more is deposited than pushed
pub deposited_few : (guest : Guest) (past : List Event) (v n : ℕ) → IsLegalSoFar guest past
    → AreFirstDeposited v n past → n ≤ pushes v past
deposited_few guest past v zero legal first = omega arith
deposited_few guest past v (suc n) legal first =
    let here : list_any (deposits_entry v n) past ≡ true = first.is n ∙ lt-ltb n (suc n) (omega arith) in
    let lt : n < pushes v past = deposited_pushed guest past v n legal here in
    omega arith

none_first : (f : ℕ → Bool) (n : ℕ) → ((k : ℕ) → k < n → f k ≡ false) → first_below f n ≡ None
none_first f zero h = refl
none_first f (suc n) h = rw (none_first f n (λ k lt. h k (omega arith)), h n (omega arith)) refl

not_first : (v n : ℕ) (past : List Event) → AreFirstDeposited v n past → (k : ℕ) → k < n
    → not (list_any (deposits_entry v k) past) ≡ false
not_first v n past first k lt = ap not (first.is k ∙ lt-ltb k n lt)

-- the least that isn't deposited is the next one, where that is pushed
pub next_undeposited : (v n : ℕ) (past : List Event) → AreFirstDeposited v n past → n < pushes v past
    → first_undeposited v past ≡ Some n
next_undeposited v n past first lt =
    first_found (λ k. not (list_any (deposits_entry v k) past)) n (pushes v past)
    (none_first (λ k. not (list_any (deposits_entry v k) past)) n (not_first v n past first))
    (ap not (first.is n ∙ le-ltb n n (omega arith))) lt

-- where all that is pushed is deposited there is none
pub none_undeposited : (v n : ℕ) (past : List Event) → AreFirstDeposited v n past → pushes v past ≡ n
    → first_undeposited v past ≡ None
none_undeposited v n past first is =
    none_first (λ k. not (list_any (deposits_entry v k) past)) (pushes v past)
    (λ k lt. not_first v n past first k (omega (arith, lt, is)))

and_last : (a b : Bool) → (a ≡ true → b ≡ false) → (a && b) ≡ false
and_last true b f = f refl
and_last false b f = refl

-- none of the entries from the next one on was deposited
pub fresh_from : (v n to : ℕ) (past : List Event) → AreFirstDeposited v n past
    → first_twice v n past to ≡ None
unfolding first_twice
fresh_from v n to past first =
    none_first (λ k. nat_le n k && list_any (deposits_entry v k) past) to
    (λ k lt. and_last (nat_le n k) (list_any (deposits_entry v k) past)
    (λ le. first.is k ∙ le-ltb k n (leb-true n k le)))

empty_case : (v n p : ℕ) (past : List Event) (twice : Option ℕ) → p ≡ n
    → cond (p - n == 0) past (fresh_after (range_of v n (p - n)) twice past) ≡ past
empty_case v n p past twice is = rw (eq-eqb (p - n) 0 (omega (arith, is))) refl

some_case : (v n p : ℕ) (past : List Event) (twice : Option ℕ) → n < p → twice ≡ None
    → cond (p - n == 0) past (fresh_after (range_of v n (p - n)) twice past) ≡ Deposited v n p ∷ past
some_case v n p past twice lt none =
    let end : n + (p - n) ≡ p = omega (arith, lt) in
    rw (ne_eqb (p - n) 0 (λ e. omega (arith, e, lt)), none, end) refl

-- the rest of a vCPU's entries is deposited as one range, or is empty
pub rest_is_range : (v n : ℕ) (past : List Event) → AreFirstDeposited v n past → n ≤ pushes v past
    → rest_deposited v past ≡ deposited_one (rest_from v n past) past
rest_is_range v n past first le =
    elim (cases_lt n (pushes v past)) [
      | inl lt ↦
          ap (λ (o : Option ℕ). deposited_from v o past) (next_undeposited v n past first lt)
          ∙ sym (some_case v n (pushes v past) past (first_twice v n past (n + (pushes v past - n))) lt
          (fresh_from v n (n + (pushes v past - n)) past first))
      | inr ge ↦
          let is : pushes v past ≡ n = omega (arith, le, ge) in
          ap (λ (o : Option ℕ). deposited_from v o past) (none_undeposited v n past first is)
          ∙ sym (empty_case v n (pushes v past) past (first_twice v n past (n + (pushes v past - n))) is)
    ]
