-- A number with one digit set is a power of two.
use Rattle.std.proofs.Common.{◌≡◌, ℕ, zero, suc, ◌/◌, ◌%◌, ◌^◌, ◌≤◌, arith, true, count_ones, inl, inr}
use Rattle.std.specs.Int.{IsPowerOfTwo, is_power_of_two}
use Rattle.std.specs.Int.Count.{ones_step}
use Rattle.std.proofs.lemmas.Bool.{eqb-true, cases_lt}
use Rattle.std.proofs.lemmas.Nat.{zero_from_ones, ones_le_self}

doubled : (n : ℕ) → n % 2 ≡ 0 → IsPowerOfTwo (n / 2) → IsPowerOfTwo n
doubled n even half = let k = half.0 in let is : n / 2 ≡ 2 ^ k = half.1 in (suc k, omega (arith, is, even))

one_digit : (d n : ℕ) → n ≤ d → count_ones n ≡ 1 → IsPowerOfTwo n
one_digit zero n le one = absurd (omega (arith, ones_le_self n, le, one))
one_digit (suc d) n le one =
    let s = ones_step n in
    elim (cases_lt (n % 2) 1) [
      | inl lt ↦ doubled n (omega (arith, lt)) (one_digit d (n / 2) (omega (arith, le, s, one, lt)) (omega (arith, s, one, lt)))
      | inr ge ↦ let none : n / 2 ≡ 0 = zero_from_ones (n / 2) (omega (arith, s, one, ge)) in (0, omega (arith, none, ge))
    ]

-- the size of a valid guest's rings
pub power_of_two : (n : ℕ) → is_power_of_two n ≡ true → IsPowerOfTwo n
power_of_two n is = one_digit n n (omega arith) (eqb-true (count_ones n) 1 is)
