-- The least number that passes a test.
use Rattle.std.proofs.Common.{◌≡◌, ℕ, zero, suc, ◌+◌, ◌<◌, Bool, true, false, cond, Option, Some, None, refl, ap, sym, ◌∙◌, subst, arith, add-one, inl, inr}
use Rattle.std.specs.Prelude.{not, ◌&&◌, if◌then◌else◌, [], ◌∷◌}
use Rattle.std.specs.List.{list_all}
use Rattle.std.proofs.lemmas.Bool.{cases_lt}
use Rattle.std.proofs.lemmas.List.Folds.{list_all-append}
use Rattle.dr_history.specs.Entries.{or_else}
use Rattle.dr_history.specs.Lookback.{below}
use Rattle.dr_turns.specs.Firsts.{first_below}
use Rattle.dr_turns.specs.Least.{IsLeast}

-- one number more
pub first_more : (passes : ℕ → Bool) (n : ℕ) → first_below passes (n + 1) ≡ or_else (first_below passes n) (if passes n then Some n else None)
first_more passes n = ap (first_below passes) (add-one n)

none_split : (found : Option ℕ) (b : Bool) (n : ℕ) → or_else found (cond b (Some n) None) ≡ None → (found ≡ None) × (b ≡ false)
none_split None true n h = cc
none_split None false n h = (refl, refl)
none_split (Some v) b n h = cc

at_last : (passes : ℕ → Bool) (n v : ℕ) → v < n + 1 → passes n ≡ false → (v < n → passes v ≡ false) → passes v ≡ false
at_last passes n v h last f =
    elim (cases_lt v n) [
      | inl lt ↦ f lt
      | inr le ↦ let same : n ≡ v = omega (arith, h, le) in subst (λ (w : ℕ). passes w ≡ false) same last
    ]

-- where none is found, every number below the bound fails the test
pub first_none : (passes : ℕ → Bool) (n : ℕ) → first_below passes n ≡ None → (v : ℕ) → v < n → passes v ≡ false
first_none passes zero h v lt = absurd (omega (arith, lt))
first_none passes (suc n) h v lt =
    let parts = none_split (first_below passes n) (passes n) n h in
    at_last passes n v (omega (arith, lt)) parts.1 (first_none passes n parts.0 v)

some_cases : (passes : ℕ → Bool) (n v : ℕ) (found : Option ℕ) (b : Bool) → passes n ≡ b → or_else found (cond b (Some n) None) ≡ Some v → (found ≡ None → (w : ℕ) → w < n → passes w ≡ false)
    → ((u : ℕ) → found ≡ Some u → (passes u ≡ true) × (u < n) × ((w : ℕ) → w < u → passes w ≡ false))
    → (passes v ≡ true) × (v < suc n) × ((w : ℕ) → w < v → passes w ≡ false)
some_cases passes n v None true is h none some =
    let same : n ≡ v = cc in
    (subst (λ (w : ℕ). passes w ≡ true) same is, omega (arith, same), λ w lt. none refl w (omega (arith, lt, same)))
some_cases passes n v None false is h none some = cc
some_cases passes n v (Some u) b is h none some =
    let same : u ≡ v = cc in
    let found = some v h in
    (found.0, (let lt : v < n = found.1 in omega (arith, lt)), found.2)

-- what is found passes, lies below the bound, and no less number passes
pub first_some : (passes : ℕ → Bool) (n v : ℕ) → first_below passes n ≡ Some v → (passes v ≡ true) × (v < n) × ((w : ℕ) → w < v → passes w ≡ false)
first_some passes zero v h = cc
first_some passes (suc n) v h = some_cases passes n v (first_below passes n) (passes n) refl h (first_none passes n) (first_some passes n)

least_case : (passes : ℕ → Bool) (n : ℕ) (found : Option ℕ) → found ≡ first_below passes n → IsLeast passes n found
least_case passes n None is = first_none passes n (sym is)
least_case passes n (Some v) is = first_some passes n v (sym is)

-- the search's answer is the least number below the bound that passes, or none where none passes
pub first_is_least : (passes : ℕ → Bool) (n : ℕ) → IsLeast passes n (first_below passes n)
first_is_least passes n = least_case passes n (first_below passes n) refl

both : (a b : Bool) → a ≡ true → b ≡ true → (a && (b && true)) ≡ true
both a b h k = rw (h, k) refl

not_false : (b : Bool) → not b ≡ false → b ≡ true
not_false true h = refl
not_false false h = cc

-- where no number fails the test, all pass
pub none_fails : (passes : ℕ → Bool) (n : ℕ) → first_below (λ v. not (passes v)) n ≡ None → list_all passes (below n) ≡ true
none_fails passes zero h = refl
none_fails passes (suc n) h =
    let parts = none_split (first_below (λ v. not (passes v)) n) (not (passes n)) n h in
    list_all-append passes (below n) (n ∷ []) ∙ both (list_all passes (below n)) (passes n) (none_fails passes n parts.0) (not_false (passes n) parts.1)
