-- What a search for the least number below a bound finds.
use Rattle.std.specs.Prelude.{◌≡◌, ◌<◌, ℕ, Bool, true, false, Option, Some, None}

-- one that passes, and no less one does; or none, where none passes
abbrev pub IsLeast : (ℕ → Bool) → ℕ → Option ℕ → Type 0
IsLeast passes n None = (v : ℕ) → v < n → passes v ≡ false
IsLeast passes n (Some v) = (passes v ≡ true) × (v < n) × ((w : ℕ) → w < v → passes w ≡ false)
