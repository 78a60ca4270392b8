-- The records that a reader gives.
use Rattle.std.specs.Prelude.{◌≡◌, ℕ, ◌+◌, length}
use Rattle.dr_history.specs.Parts.{Part, Round, Page, Zeros}
use Rattle.dr_stream_reader.specs.declared.record.Record.{Record}
use Rattle.dr_stream_reader.specs.declared.record.Record.TheVariants as kind

-- the part of a stream that a record is
abbrev pub part_of : Record → Part
part_of (kind.Round r) = Round r
part_of (kind.Page page bytes) = Page page bytes.now
part_of (kind.Zeros first n) = Zeros first n

-- how many bytes a record has
abbrev pub size_of : Record → ℕ
size_of (kind.Round r) = 8
size_of (kind.Page page bytes) = 4104
size_of (kind.Zeros first n) = 12

-- how many pages an image has at least that has all pages of a part
abbrev pub reaches : Part → ℕ
reaches (Page page bytes) = page + 1
reaches (Zeros first n) = first + n
reaches part = 0

-- where the part is a page, all of its bytes are there
abbrev pub IsWholePage : Part → Type 0
IsWholePage (Page page bytes) = length bytes ≡ 4096
IsWholePage part = Unit {0}
