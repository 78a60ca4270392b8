-- A reader of a stream, record by record.
use Rattle.std.specs.Prelude.{◌≡◌, ◌≤◌, ◌<◌, ℕ, List, ◌∷◌, ◌++◌, length, drop, get_or}
use Rattle.std.specs.Prelude.{Option, Some, None}
use Rattle.std.specs.Prelude.{Result, Ok, Err}
use Rattle.dr_types.specs.declared.fault.StreamFault.{StreamFault}
use Rattle.dr_history.specs.Lookback.{count}
use Rattle.dr_history.specs.Parts.{Part, part_bytes, end_record, has_pages}
use Rattle.dr_stream_law.specs.Grammar.{Begins, MayStand}
use Rattle.dr_stream_law.specs.Faults.{number_at, record_fault}
use Rattle.dr_stream_reader.specs.declared.record.Record.{Record}
use Rattle.dr_stream_reader.specs.declared.standing.Standing.{Standing}
use Rattle.dr_stream_reader.specs.Records.{part_of, size_of}
use Rattle.dr_stream_reader.specs.Standings.{StandsAfter, standing_after}

-- what a reader sees: all bytes, those that are still to be read, and what the records so far say
-- of the next one
pub record Reading : Type 0 where
  pub bytes : List ℕ
  pub rest : List ℕ
  pub standing : Standing

abbrev pub reading_of : List ℕ → List ℕ → Standing → Reading
reading_of bytes rest standing = record { bytes = bytes; rest = rest; standing = standing }

-- these records were read, each in its place, the last one first
pub record HasRead (parts : List Part) (reading : Reading) : Type 0 where
  pub begins : Begins reading.bytes reading.standing.version reading.standing.pages parts
      reading.rest
  pub stands : StandsAfter parts reading.standing

-- each is a byte
abbrev pub AreBytes : List ℕ → Type 0
AreBytes bytes = (i : ℕ) → get_or bytes i 0 < 256

-- some records were read, and what is left is bytes
pub record IsReading (reading : Reading) : Type 0 where
  pub parts : List Part
  pub has : HasRead parts reading
  pub are_bytes : AreBytes reading.rest

-- what is still to be read begins with this kind and this number
pub record HasHead (reading : Reading) (of number : ℕ) : Type 0 where
  pub long : 8 ≤ length reading.rest
  pub is : number_at 0 reading.rest ≡ of
  pub says : number_at 4 reading.rest ≡ number

-- the fault of what is to be read, after these records
abbrev pub next_fault : Reading → List Part → Option StreamFault
next_fault reading parts =
    record_fault reading.standing.version reading.standing.pages parts (length reading.bytes)
    reading.rest

-- what is still to be read begins with this record, which may stand there
pub record ComesNext (next : Record) (reading : Reading) (parts : List Part) : Type 0 where
  pub may : MayStand reading.standing.version reading.standing.pages (part_of next) parts
  pub bytes_are : reading.rest ≡ part_bytes (part_of next) ++ drop (size_of next) reading.rest

-- what is next after these records: a record, or the end that counts them, or a fault
abbrev pub IsNext : Reading → List Part → Result (Option Record) StreamFault → Type 0
IsNext reading parts (Ok (Some next)) = ComesNext next reading parts
IsNext reading parts (Ok None) = reading.rest ≡ end_record (count has_pages parts)
IsNext reading parts (Err why) = next_fault reading parts ≡ Some why

-- the answer says what is next
unfoldable pub SaysNext : Reading → Result (Option Record) StreamFault → Type 0
SaysNext reading answer = (parts : List Part) → HasRead parts reading → IsNext reading parts answer

-- a reader went past this record
pub record GoesPast (next : Record) (old new : Reading) : Type 0 where
  pub bytes : new.bytes ≡ old.bytes
  pub shorter : length new.rest < length old.rest
  pub standing : new.standing ≡ standing_after old.standing (part_of next)
  pub reads : (parts : List Part) → HasRead parts old → HasRead (part_of next ∷ parts) new

-- where there is a record the reader went past it, and else nothing was read
abbrev pub ReadsNext : Reading → Result (Option Record) StreamFault → Reading → Type 0
ReadsNext old (Ok (Some next)) new = GoesPast next old new
ReadsNext old answer new = new ≡ old

-- a reader of these bytes, somewhere in them
pub record IsReaderOf (bytes : List ℕ) (reading : Reading) : Type 0 where
  pub parts : List Part
  pub same : reading.bytes ≡ bytes
  pub has : HasRead parts reading
