-- Where the pages of a guest's slots lie.
use Rattle.std.specs.Prelude.{ℕ, ◌+◌, ◌-◌, nat_lt, if◌then◌else◌, ◌==◌, List, [], ◌∷◌, Option, Some}
use Rattle.std.specs.Prelude.{None, map}
use Rattle.dr_types.specs.declared.guest.SlotRow.{SlotRow}
use Rattle.dr_types.specs.Pages.{slot_field}
use Rattle.std.specs.List.{flat_map, range_with_len}
use Rattle.dr_types.specs.declared.entry.Entry.{Entry}

-- the pages of a slot, by their offset
abbrev pub pages_of : SlotRow → List Entry
pages_of row =
    map (λ offset. record { slot = slot_field row; offset = offset }) (range_with_len 0 row.pages)

-- every page, slot by slot
abbrev pub all_pages : List SlotRow → List Entry
all_pages rows = flat_map pages_of rows

-- where a page lies
abbrev pub place_of : List SlotRow → ℕ → Option Entry
place_of [] page = None
place_of (row ∷ rows) page =
    if nat_lt page row.pages then Some (record { slot = slot_field row; offset = page })
    else place_of rows (page - row.pages)

-- the page of an offset in the slot of a field, where the slots' pages are numbered from first on
abbrev pub page_at_from : ℕ → List SlotRow → ℕ → ℕ → Option ℕ
page_at_from first [] slot offset = None
page_at_from first (row ∷ rows) slot offset =
    if slot_field row == slot then (if nat_lt offset row.pages then Some (first + offset) else None)
    else page_at_from (first + row.pages) rows slot offset

-- the page of an offset in the slot of a field
abbrev pub page_at_place : List SlotRow → ℕ → ℕ → Option ℕ
page_at_place rows slot offset = page_at_from 0 rows slot offset
