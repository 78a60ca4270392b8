-- The bytes that a source gave, kept beside it.
use Rattle.std.specs.Prelude.{◌≡◌, ℕ, List, ◌++◌, Option, Some, None}

-- a source, and the bytes that it gave, where it keeps them and memory for all of them was there
pub record Kept (S : Type 0) : Type 0 where
  pub source : S
  pub bytes : Option (List ℕ)

-- the bytes with these after them
abbrev pub IsLonger : Option (List ℕ) → List ℕ → List ℕ → Type 0
IsLonger old more new = (before : List ℕ) × (old ≡ Some before) × (new ≡ before ++ more)

-- what was kept, and after it what is left, where both are told
abbrev pub text_of : Option (List ℕ) → Option (List ℕ) → Option (List ℕ)
text_of (Some kept) (Some remaining) = Some (kept ++ remaining)
text_of kept remaining = None

-- bytes that were left are kept: as long as all are, the two together stay the same text
abbrev pub MovesBytes : Option (List ℕ) → Option (List ℕ) → Option (List ℕ) → Option (List ℕ)
    → Type 0
MovesBytes kept remaining kept_now left_now =
    (bytes told : List ℕ) → kept_now ≡ Some bytes → remaining ≡ Some told
    → text_of kept_now left_now ≡ text_of kept remaining
