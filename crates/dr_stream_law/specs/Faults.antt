-- The first fault of bytes that are no stream.
use Rattle.std.specs.Prelude.{◌≡◌, ◌⊎◌, ℕ, ◌+◌, ◌-◌, ◌==◌, ◌&&◌, nat_lt, nat_le, Bool}
use Rattle.std.specs.Prelude.{if◌then◌else◌, List, length, take, drop, Option, Some, None, codes}
use Rattle.std.specs.Int.{w32, from_le_bytes}
use Rattle.std.specs.Str.{bytes_eq}
use Rattle.dr_types.specs.declared.fault.StreamFault.{StreamFault}
use Rattle.dr_types.specs.declared.fault.StreamFault.TheVariants.{Magic, Version, Pages, Cut}
use Rattle.dr_types.specs.declared.fault.StreamFault.TheVariants.{Kind, Place, Count, After}
use Rattle.dr_history.specs.Lookback.{count}
use Rattle.dr_history.specs.Parts.{Part, has_pages}
use Rattle.dr_stream_law.specs.Grammar.{Begins, round_rises, page_fits, zeros_fit}
use Rattle.dr_stream_law.specs.Loading.{IsStream}

-- the number in the four bytes from a place on
abbrev pub number_at : ℕ → List ℕ → ℕ
number_at at bytes = from_le_bytes w32 (drop at bytes)

-- this fault unless the test holds, and else what the next test finds
abbrev pub unless : Bool → StreamFault → Option StreamFault → Option StreamFault
unless holds fault next = if holds then next else Some fault

-- the version can be read
abbrev pub is_known : ℕ → Bool
is_known version = nat_le 1 version && nat_le version 2

-- a stream may have so many pages
abbrev pub is_page_count : ℕ → Bool
is_page_count pages = nat_le 1 pages && nat_le pages 16384

-- the bytes are those of `DRSTREAM`, as far as both go
abbrev pub has_magic : List ℕ → Bool
has_magic bytes = bytes_eq (take 8 bytes) (take (length bytes) (codes "DRSTREAM"))

-- the fault of the number of pages, of bytes whose version is known
abbrev pub pages_fault : List ℕ → Option StreamFault
pages_fault bytes =
    if nat_lt (length bytes) 16 then Some (Cut (length bytes))
    else unless (is_page_count (number_at 12 bytes)) (Pages (number_at 12 bytes)) None

-- the fault of the version and the number of pages
abbrev pub numbers_fault : List ℕ → Option StreamFault
numbers_fault bytes =
    if nat_lt (length bytes) 12 then Some (Cut (length bytes))
    else unless (is_known (number_at 8 bytes)) (Version (number_at 8 bytes)) (pages_fault bytes)

-- the first fault of a header: of its bytes as far as they are there, in their order
unfoldable pub header_fault : List ℕ → Option StreamFault
header_fault bytes = unless (has_magic bytes) Magic (numbers_fault bytes)

-- The fault of a record of this kind and number, after these records. `at` is its place, `len` is
-- how many bytes there are in all, and `rest` is the bytes from that place on.
abbrev pub round_fault : ℕ → List Part → ℕ → Option StreamFault
round_fault r earlier at = unless (round_rises r earlier) (Place at) None

abbrev pub page_fault : ℕ → ℕ → List Part → ℕ → ℕ → List ℕ → Option StreamFault
page_fault pages page earlier at len rest =
    unless (page_fits pages page earlier) (Place at)
    (unless (nat_le 4104 (length rest)) (Cut len) None)

abbrev pub zeros_fault : ℕ → ℕ → List Part → ℕ → ℕ → List ℕ → Option StreamFault
zeros_fault pages first earlier at len rest =
    unless (page_fits pages first earlier) (Place at)
    (unless (nat_le 12 (length rest)) (Cut len)
    (unless (zeros_fit pages first (number_at 8 rest)) (Place at) None))

abbrev pub end_fault : ℕ → List Part → ℕ → List ℕ → Option StreamFault
end_fault said earlier at rest =
    unless (said == count has_pages earlier) (Count said (count has_pages earlier))
    (unless (nat_le (length rest) 8) (After (at + 8)) None)

abbrev pub kind_fault : ℕ → ℕ → ℕ → ℕ → List Part → ℕ → ℕ → List ℕ → Option StreamFault
kind_fault version pages kind number earlier at len rest =
    if kind == 1 then round_fault number earlier at
    else if kind == 2 then page_fault pages number earlier at len rest
    else if kind == 3 then end_fault number earlier at rest
    else if kind == 4 && version == 2 then zeros_fault pages number earlier at len rest
    else Some (Kind at)

-- the fault of the record that the rest begins with, after these records
unfoldable pub record_fault : ℕ → ℕ → List Part → ℕ → List ℕ → Option StreamFault
record_fault version pages earlier len rest =
    if nat_lt (length rest) 8 then Some (Cut len)
    else kind_fault version pages (number_at 0 rest) (number_at 4 rest) earlier (len - length rest)
    len rest

-- the bytes are a header, records in their places, and then a record that has this fault
pub record IsBroken (bytes : List ℕ) (fault : StreamFault) : Type 0 where
  pub version : ℕ
  pub pages : ℕ
  pub parts : List Part
  pub rest : List ℕ
  pub begins : Begins bytes version pages parts rest
  pub breaks : record_fault version pages parts (length bytes) rest ≡ Some fault

-- the bytes' first fault: the header has it, or the first record that may not stand where it does
abbrev pub HasFault : List ℕ → StreamFault → Type 0
HasFault bytes fault = (header_fault bytes ≡ Some fault) ⊎ IsBroken bytes fault

-- bytes have one first fault at most
abbrev pub FaultOnce : Type 0
FaultOnce = (bytes : List ℕ) (a b : StreamFault) → HasFault bytes a → HasFault bytes b → a ≡ b

-- bytes that have a fault are no stream
abbrev pub FaultOrStream : Type 0
FaultOrStream =
    (bytes : List ℕ) (fault : StreamFault) (image : List (List ℕ)) (records : ℕ)
    → HasFault bytes fault
    → IsStream bytes image records
    → ⊥
