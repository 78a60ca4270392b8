-- The pages that a mask names.
use Rattle.std.specs.Prelude.{ℕ, ◌+◌, ◌==◌, if◌then◌else◌, List, Option, None}
use Rattle.std.specs.Int.{bit_at}
use Rattle.std.specs.List.{filter_map, range_with_len}
use Rattle.dr_types.specs.declared.guest.SlotRow.{SlotRow}
use Rattle.dr_slots.specs.Places.{page_at_place}

-- the page that bit i of a mask names: where it is set, the one at this slot's offset base + i
abbrev pub named_page : List SlotRow → ℕ → ℕ → ℕ → ℕ → Option ℕ
named_page rows slot base mask i =
    if bit_at mask i == 1 then page_at_place rows slot (base + i) else None

-- the pages that the 64 bits of a mask name
abbrev pub named_pages : List SlotRow → ℕ → ℕ → ℕ → List ℕ
named_pages rows slot base mask = filter_map (named_page rows slot base mask) (range_with_len 0 64)
