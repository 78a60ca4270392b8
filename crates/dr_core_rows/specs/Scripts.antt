-- The guests of the worked histories.
use Rattle.std.specs.Prelude.{ℕ, List, [], ◌∷◌}
use Rattle.dr_types.specs.declared.guest.SlotRow.{SlotRow}
use Rattle.dr_types.specs.declared.guest.Op.TheVariants.{W, F, R, A, S, Halt}
use Rattle.dr_types.specs.declared.guest.Item.{Item}
use Rattle.dr_types.specs.declared.guest.Item.TheVariants.{One, Rep}

-- pages from address 0 on
abbrev pub one_slot : ℕ → List SlotRow
one_slot pages = record { space = 0; id = 0; base = 0; pages = pages } ∷ []

-- halts at once
abbrev pub idle : List Item
idle = One Halt ∷ []

-- writes its only page twice
abbrev pub writing : List Item
writing = One (A 0) ∷ One (W 0 0 1 1) ∷ One (W 0 0 1 2) ∷ One Halt ∷ []

-- writes each of two pages once
abbrev pub two_writes : List Item
two_writes = One (A 1) ∷ One (W 0 0 1 65) ∷ One (W 0 4096 2 17218) ∷ One Halt ∷ []

-- loads a number, adds one to it and stores it, twice
abbrev pub counting : List Item
counting = One (F 0 0 7) ∷ One (W 0 9 1 1) ∷ Rep 2 (R 0 8 ∷ A 1 ∷ S 0 8 ∷ []) ∷ One Halt ∷ []
