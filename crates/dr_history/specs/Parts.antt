-- The parts of a migration stream, and their bytes. A list of parts has the last one first:
-- `part ∷ earlier` is what stands earlier, and then part.
use Rattle.std.specs.Prelude.{ℕ, Bool, true, false, List, [], ◌∷◌, ◌++◌, codes}
use Rattle.std.specs.Int.{w32, to_le_bytes}

-- the header, of a version and a number of pages; a round that begins; a page with its bytes; so
-- many pages of zeros from a first one on; and the end, with the number of records of pages before
-- it
pub data Part : Type 0 where
  Header : ℕ → ℕ → Part
  Round : ℕ → Part
  Page : ℕ → List ℕ → Part
  Zeros : ℕ → ℕ → Part
  End : ℕ → Part

-- a number in four bytes, the least first
abbrev pub word : ℕ → List ℕ
word n = to_le_bytes w32 n

unfoldable pub header : ℕ → ℕ → List ℕ
header version pages = codes "DRSTREAM" ++ word version ++ word pages

unfoldable pub round_record : ℕ → List ℕ
round_record r = word 1 ++ word r

unfoldable pub page_record : ℕ → List ℕ → List ℕ
page_record page bytes = word 2 ++ word page ++ bytes

unfoldable pub end_record : ℕ → List ℕ
end_record records = word 3 ++ word records

unfoldable pub zeros_record : ℕ → ℕ → List ℕ
zeros_record first n = word 4 ++ word first ++ word n

abbrev pub part_bytes : Part → List ℕ
part_bytes (Header version pages) = header version pages
part_bytes (Round r) = round_record r
part_bytes (Page page bytes) = page_record page bytes
part_bytes (Zeros first n) = zeros_record first n
part_bytes (End records) = end_record records

abbrev pub parts_bytes : List Part → List ℕ
parts_bytes [] = []
parts_bytes (part ∷ earlier) = parts_bytes earlier ++ part_bytes part

-- the part names pages
abbrev pub has_pages : Part → Bool
has_pages (Page page bytes) = true
has_pages (Zeros first n) = true
has_pages part = false
