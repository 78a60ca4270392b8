-- What a store of pages shows.
use Rattle.std.specs.Prelude.{ℕ, Bool, true, false, List, [], Option, Some, None, map, is_some}
use Rattle.std.specs.Prelude.{slice_index_or, slice_set}
use Rattle.dr_history.specs.Memory.{filled}

-- the bytes of each page, and which pages have memory of their own
pub record Store : Type 0 where
  pub pages : List (List ℕ)
  pub rooms : List Bool

-- the page has memory of its own
abbrev pub has_room : ℕ → Store → Bool
has_room page store = slice_index_or store.rooms page false

-- the bytes of a page
abbrev pub bytes_of : ℕ → Store → List ℕ
bytes_of page store = slice_index_or store.pages page []

-- a page with other bytes
abbrev pub with_bytes : ℕ → List ℕ → Store → Store
with_bytes page bytes store = record store { pages = slice_set store.pages page bytes }

-- a page with memory of its own
abbrev pub with_room : ℕ → Store → Store
with_room page store = record store { rooms = slice_set store.rooms page true }

-- the bytes that a page's own memory holds; a page without it is zero
abbrev pub held_bytes : Option (List ℕ) → List ℕ
held_bytes None = filled 0
held_bytes (Some bytes) = bytes

-- what pages show, each with its own memory or without
abbrev pub shown : List (Option (List ℕ)) → Store
shown pages = record { pages = map held_bytes pages; rooms = map is_some pages }
