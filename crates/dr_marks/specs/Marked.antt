-- A list of the flags that are set.
use Rattle.std.specs.Prelude.{◌≡◌, ℕ, ◌<◌, Bool, false, ◌==◌, List, [], ◌∷◌, length, slice_index_or}
use Rattle.std.specs.List.{list_any}

-- whether the number is among these
abbrev pub among : ℕ → List ℕ → Bool
among n xs = list_any (λ x. x == n) xs

-- the flag itself, as a test
abbrev pub is_set : Bool → Bool
is_set b = b

-- each of these numbers is below n
abbrev pub AllUnder : ℕ → List ℕ → Type 0
AllUnder n [] = Unit {0}
AllUnder n (x ∷ xs) = (x < n) × AllUnder n xs

-- these are the numbers of the flags that are set
pub record IsList (flags : List Bool) (xs : List ℕ) : Type 0 where
  pub each : (n : ℕ) → n < length flags → among n xs ≡ slice_index_or flags n false
  pub within : AllUnder (length flags) xs
