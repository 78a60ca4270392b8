-- Calls that are numbered from 1.
use Rattle.std.specs.Prelude.{ℕ, ◌+◌, ◌-◌, ◌^◌, ◌==◌, min, Bool, List}
use Rattle.std.specs.List.{list_any}

-- one more, or the last number that 64 bits hold
abbrev pub one_more : ℕ → ℕ
one_more n = min (n + 1) (2 ^ 64 - 1)

-- the number is one of these
abbrev pub is_listed : ℕ → List ℕ → Bool
is_listed n numbers = list_any (λ m. m == n) numbers
