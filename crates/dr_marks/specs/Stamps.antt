use Rattle.std.specs.Prelude.{ℕ, ◌≤◌, ◌==◌, Bool, List, [], ◌∷◌}

-- each of these stamps is at most n
abbrev pub AllAtMost : ℕ → List ℕ → Type 0
AllAtMost n [] = Unit {0}
AllAtMost n (x ∷ xs) = (x ≤ n) × AllAtMost n xs

-- the flags of which the stamp is this one
abbrev pub flags_at : ℕ → List ℕ → List Bool
flags_at n [] = []
flags_at n (x ∷ xs) = (x == n) ∷ flags_at n xs
