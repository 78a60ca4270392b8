-- Sums over the numbers below a bound, and flags.
use Rattle.std.proofs.Common.{◌≡◌, ℕ, zero, suc, ◌+◌, ◌*◌, ◌<◌, ◌≤◌, Bool, true, false, cond, List, [], ◌∷◌, length, slice_get, refl, arith, inl, inr}
use Rattle.std.specs.Prelude.{◌==◌}
use Rattle.std.proofs.lemmas.Bool.{eq-eqb, cases_lt}
use Rattle.dr_types.specs.declared.guest.Item.{Item}
use Rattle.dr_types.specs.Scripts.{op_count, script_of}
use Rattle.dr_schedule_law.specs.Counts.{flag}

-- a flag is no more than 1
pub flag_few : (test : Bool) → flag test ≤ 1
flag_few true = omega arith
flag_few false = omega arith

-- a count of one more where a test holds is the count and the flag
pub count_more : (test : Bool) (n : ℕ) → cond test (n + 1) n ≡ n + flag test
count_more true n = refl
count_more false n = omega arith

-- the sum of a function's values at the numbers below a bound
abbrev pub sum_below : ℕ → (ℕ → ℕ) → ℕ
sum_below zero f = 0
sum_below (suc n) f = sum_below n f + f n

-- no value falls, so the sum doesn't
pub sum_grows : (n : ℕ) (f g : ℕ → ℕ) → ((k : ℕ) → f k ≤ g k) → sum_below n f ≤ sum_below n g
sum_grows zero f g h = omega arith
sum_grows (suc n) f g h = omega (arith, sum_grows n f g h, h n)

-- one value rises, so the sum does
pub sum_rises : (n w d : ℕ) (f g : ℕ → ℕ) → w < n
    → ((k : ℕ) → f k + d * flag (w == k) ≤ g k) → sum_below n f + d ≤ sum_below n g
sum_rises zero w d f g lt h = absurd (omega arith)
sum_rises (suc n) w d f g lt h =
    elim (cases_lt w n) [
      | inl l ↦ omega (arith, sum_rises n w d f g l h, h n)
      | inr le ↦ (
          let here : w ≡ n = omega (arith, lt, le) in
          let rise : f n + d * 1 ≤ g n = rw (eq-eqb w n here) at (h n) in
          omega (arith, rise, sum_grows n f g (λ k. omega (arith, h k))))
    ]

-- each value is at most a multiple and a constant more, so the sum is too
pub sum_linear : (n a b : ℕ) (f g : ℕ → ℕ) → ((k : ℕ) → f k ≤ a * g k + b)
    → sum_below n f ≤ a * sum_below n g + n * b
sum_linear zero a b f g h = omega arith
sum_linear (suc n) a b f g h = omega (arith, sum_linear n a b f g h, h n)

-- the first value apart
sum_first : (n : ℕ) (f : ℕ → ℕ) → sum_below (suc n) f ≡ f 0 + sum_below n (λ k. f (suc k))
sum_first zero f = omega arith
sum_first (suc n) f = omega (arith, sum_first n f)

-- the lengths of the scripts together
pub sum_scripts : (scripts : List (List Item))
    → sum_below (length scripts) (λ v. length (script_of (slice_get scripts v))) ≡ op_count scripts
sum_scripts [] = refl
sum_scripts (script ∷ scripts) =
    omega (
      arith,
      sum_first (length scripts) (λ v. length (script_of (slice_get (script ∷ scripts) v))),
      sum_scripts scripts,
    )
