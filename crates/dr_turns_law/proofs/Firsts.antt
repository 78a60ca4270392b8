-- The least number that passes, found by going up.
use Rattle.std.proofs.Common.{◌≡◌, ℕ, zero, suc, ◌+◌, ◌<◌, ◌≤◌, Bool, true, false, subst, ◌∙◌, arith, inl, inr, refl}
use Rattle.std.specs.Prelude.{Some, None}
use Rattle.std.proofs.lemmas.Bool.{cases_lt}
use Rattle.dr_turns.specs.Firsts.{first_below}
use Rattle.dr_turns_law.proofs.Found.{first_more}

-- one more that doesn't pass
pub still_none : (passes : ℕ → Bool) (k : ℕ) → first_below passes k ≡ None → passes k ≡ false → first_below passes (k + 1) ≡ None
still_none passes k none fails = first_more passes k ∙ rw (none, fails) refl

first_stays : (passes : ℕ → Bool) (n m k : ℕ) → first_below passes n ≡ Some k → n ≤ m → first_below passes m ≡ Some k
first_stays passes n zero k is le = let e : n ≡ 0 = omega (arith, le) in subst (λ (j : ℕ). first_below passes j ≡ Some k) e is
first_stays passes n (suc m) k is le =
    elim (cases_lt m n) [
      | inl lt ↦ (let e : n ≡ suc m = omega (arith, le, lt) in subst (λ (j : ℕ). first_below passes j ≡ Some k) e is)
      | inr ge ↦ rw (first_stays passes n m k is ge) refl
    ]

-- the first that does
pub first_found : (passes : ℕ → Bool) (k n : ℕ) → first_below passes k ≡ None → passes k ≡ true → k < n → first_below passes n ≡ Some k
first_found passes k n none passing lt =
    first_stays passes (k + 1) n k (first_more passes k ∙ rw (none, passing) refl) (omega (arith, lt))
