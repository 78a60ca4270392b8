-- A word that names an address space is read as it was written.
use Rattle.std.proofs.Common.{◌≡◌, ℕ, zero, suc, ◌^◌, ◌<◌, ◌≤◌, Bool, true, false, cond, List, [], ◌∷◌, ◌++◌, take, drop, refl, ap, arith}
use Rattle.std.specs.Prelude.{◌==◌, ◌&&◌, codes, decimal}
use Rattle.std.specs.Char.{digit_value}
use Rattle.std.specs.Str.{bytes_eq}
use Rattle.std.specs.Str.Parse.{AllDigits}
use Rattle.std.proofs.lemmas.Bool.{and_parts, eqb-true}
use Rattle.std.proofs.lemmas.Bool.Decides.{nat_tests}
use Rattle.std.proofs.lemmas.Fmt.{decimal_is_IsNumeral}
use Rattle.std.proofs.lemmas.Slice.Eq.{bytes_eq-Decides}
use Rattle.std.proofs.lemmas.Str.Parse.{digit_from_value}
use Rattle.dr_types.specs.Spaces.{space_prefix, spaced_word, names_space_1, spaced}

-- a digit is no colon
no_colon : (c : ℕ) → digit_value c < 10 → (58 == c) ≡ false
no_colon c below = let range = digit_from_value c below in grind (arith, nat_tests, range)

never : (b : Bool) → (b && false) ≡ false
never true = refl
never false = refl

-- no digits begin with the prefix of space 1
digits_plain : (ds : List ℕ) → AllDigits 10 ds → bytes_eq (codes "1:") (take 2 ds) ≡ false
digits_plain [] digits = refl
digits_plain (c ∷ []) digits = never (49 == c)
digits_plain (c ∷ d ∷ ds) digits = rw (no_colon d digits.1.0) (never (49 == c))

pub decimal_plain : (version n : ℕ) → n < 2 ^ 64 → names_space_1 version (decimal n) ≡ false
decimal_plain version n fits = rw (digits_plain (decimal n) (decimal_is_IsNumeral n fits).0.1) (never (version == 2))

-- the word of a number of a space says both
pub spaced_again : (version space n : ℕ) → 1 ≤ version → version ≤ 2 → space < version → n < 2 ^ 64 → spaced version (spaced_word space n) ≡ (space, decimal n)
spaced_again version zero n some few within fits = rw (decimal_plain version n fits) refl
spaced_again version (suc zero) n some few within fits =
    let second : (version == 2) ≡ true = grind (arith, nat_tests, few, within) in
    rw second refl
spaced_again version (suc (suc space)) n some few within fits = absurd (omega (arith, few, within))

-- a prefix and what is left of a word are the word
prefix_word : (word : List ℕ) → codes "1:" ≡ take 2 word → codes "1:" ++ drop 2 word ≡ word
prefix_word [] e = absurd cc
prefix_word (c ∷ []) e = absurd cc
prefix_word (c ∷ d ∷ word) e = ap (λ (start : List ℕ). start ++ word) e

abbrev split : Bool → List ℕ → ℕ × List ℕ
split b word = cond b (1, drop 2 word) (0, word)

split_case : (b : Bool) (word : List ℕ) → (b ≡ true → codes "1:" ++ drop 2 word ≡ word) → space_prefix (split b word).0 ++ (split b word).1 ≡ word
split_case true word f = f refl
split_case false word f = refl

pub spaced_says : (version : ℕ) (word : List ℕ) → space_prefix (spaced version word).0 ++ (spaced version word).1 ≡ word
spaced_says version word =
    split_case (names_space_1 version word) word
    (λ t. prefix_word word ((bytes_eq-Decides (codes "1:") (take 2 word)).0 (and_parts (version == 2) _ t).1))

below_case : (b : Bool) (version : ℕ) (word : List ℕ) → 1 ≤ version → (b ≡ true → version ≡ 2) → (split b word).0 < version
below_case true version word some f = let two : version ≡ 2 = f refl in omega (arith, two)
below_case false version word some f = omega (arith, some)

-- the space is one of the version
pub spaced_below : (version : ℕ) (word : List ℕ) → 1 ≤ version → (spaced version word).0 < version
spaced_below version word some =
    below_case (names_space_1 version word) version word some (λ t. eqb-true version 2 (and_parts (version == 2) _ t).0)

few_case : (b : Bool) (word : List ℕ) → (split b word).0 ≤ 1
few_case true word = omega arith
few_case false word = omega arith

-- and it is 0 or 1
pub spaced_few : (version : ℕ) (word : List ℕ) → (spaced version word).0 ≤ 1
spaced_few version word = few_case (names_space_1 version word) word
