-- Which pages may be written, and by whom without asking.
use Rattle.std.specs.Prelude.{◌≡◌, ℕ, ◌+◌, ◌*◌, ◌≤◌, Bool, false, List, length, slice_index_or}
use Rattle.dr_types.specs.declared.guest.SlotRow.{SlotRow}
use Rattle.dr_types.specs.Pages.{pages_of_slots}

-- a flag for each page that may be written, and one for each vCPU and page that it has cached, the
-- pages of the first vCPU before those of the second
pub record Permissions : Type 0 where
  pub rows : List SlotRow
  pub vcpus : ℕ
  pub pages : ℕ
  pub writable : List Bool
  pub cached : List Bool

-- the place of a vCPU's flag for a page
abbrev pub cell : ℕ → ℕ → Permissions → ℕ
cell v page it = v * it.pages + page

-- a page may be written
abbrev pub is_writable : ℕ → Permissions → Bool
is_writable page it = slice_index_or it.writable page false

-- a vCPU writes a page without asking
abbrev pub is_cached : ℕ → ℕ → Permissions → Bool
is_cached v page it = slice_index_or it.cached (cell v page it) false

-- as many flags as there are pages, and vCPUs and pages
pub record IsSized (it : Permissions) : Type 0 where
  pub pages_are : it.pages ≡ pages_of_slots it.rows
  pub few_pages : it.pages ≤ 16384
  pub few_vcpus : it.vcpus ≤ 32
  pub writable_are : length it.writable ≡ it.pages
  pub cached_are : length it.cached ≡ it.vcpus * it.pages
