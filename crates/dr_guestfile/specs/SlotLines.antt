-- The slot lines of a guest.
use Rattle.std.specs.Prelude.{ℕ, ◌+◌, ◌-◌, ◌*◌, ◌^◌, ◌==◌, nat_le, nat_lt, not, if◌then◌else◌, List}
use Rattle.std.specs.Prelude.{[], ◌∷◌, ◌++◌, length, Option, Some, None, Result, Ok, Err, codes}
use Rattle.std.specs.Prelude.{find, ◌≤◌, ◌<◌, ◌&&◌, Bool, All}
use Rattle.std.specs.Option.{ok_or}
use Rattle.std.specs.List.{list_any}
use Rattle.dr_types.specs.declared.fault.FileFault.{FileFault}
use Rattle.dr_types.specs.declared.fault.FileFault.TheVariants as fault
use Rattle.dr_types.specs.declared.fault.What.TheVariants as what
use Rattle.dr_types.specs.declared.guest.SlotRow.{SlotRow}
use Rattle.dr_types.specs.Pages.{slot_field, pages_of_slots}
use Rattle.dr_types.specs.Validity.{meet}
use Rattle.dr_guestfile_lines.specs.declared.lines.Line.{Line}
use Rattle.dr_guestfile_lines.specs.Input.{Input}
use Rattle.dr_guestfile_lines.specs.Reading.{◌>>=◌, check, number_of, next_begins, next_number}
use Rattle.dr_guestfile_lines.specs.Reading.{spaced_number_of}
use Rattle.dr_guestfile_lines.specs.Words.{three_words, words_after}

-- slots whose fields and sums are small
pub record AreInBounds (rows : List SlotRow) : Type 0 where
  pub fields : All (λ row. slot_field row < 2 ^ 32) rows
  pub ends : All (λ row. row.base + row.pages ≤ 2 ^ 52) rows
  pub pages : pages_of_slots rows ≤ 16384

-- slot ID BASE PAGES, where ID may have the prefix of its space
unfoldable pub slot_of : ℕ → Line → Result SlotRow FileFault
slot_of version line = do
  words ← ok_or (three_words (words_after line.words)) (fault.Line line.number)
  id ← spaced_number_of version 65535 words.0 line.number
  base ← number_of 0 (2 ^ 64 - 1) words.1 line.number
  pages ← number_of 1 (2 ^ 32 - 1) words.2 line.number
  ends ← check (nat_le (base + pages) (2 ^ 52)) (fault.Number line.number)
  Ok (record { space = id.0; id = id.1; base = base; pages = pages })

-- the fault of a slot that meets an earlier one
abbrev pub apart_from : Option SlotRow → SlotRow → Result (Unit {0}) FileFault
apart_from None row = Ok tt
apart_from (Some earlier) row = Err (fault.Overlap (slot_field earlier) (slot_field row))

-- the slots have the same space and id
abbrev pub is_same_slot : SlotRow → SlotRow → Bool
is_same_slot a b = a.space == b.space && a.id == b.id

-- a slot that may stand after the earlier ones
unfoldable pub admitted : ℕ → List SlotRow → SlotRow → ℕ → Result (Unit {0}) FileFault
admitted rounds earlier row line = do
  few ← check (nat_lt (length earlier) 32) (fault.TooLarge what.Slots line)
  once ← check (not (list_any (λ slot. is_same_slot slot row) earlier)) (fault.SlotTwice line)
  apart ← apart_from (find (λ slot. meet slot row) earlier) row
  small ← check (nat_le (pages_of_slots earlier + row.pages) 16384) (fault.TooLarge what.Pages line)
  check (nat_le ((pages_of_slots earlier + row.pages) * (rounds
      + 1)) 262144) (fault.TooLarge what.Copies line)

-- the slots, where there is one
abbrev pub some_slots : List SlotRow → Input → Result (List SlotRow × Input) FileFault
some_slots [] input = Err (fault.Line (next_number input))
some_slots (row ∷ rows) input = Ok (row ∷ rows, input)

-- the slots that these lines go on with
unfoldable pub slots_from : ℕ → ℕ → List SlotRow → List Line → ℕ
    → Result (List SlotRow × Input) FileFault
slots_from version rounds rows [] past = some_slots rows (record { lines = []; past = past })
slots_from version rounds rows (line ∷ lines) past =
    if next_begins (codes "slot") (line ∷ lines)
    then (
    slot_of version line >>= λ row. admitted rounds rows row line.number >>= λ done.
    slots_from version rounds (rows ++ row ∷ []) lines past
    )
    else some_slots rows (record { lines = line ∷ lines; past = past })

-- one slot line or more
abbrev pub slots_in : ℕ → ℕ → Input → Result (List SlotRow × Input) FileFault
slots_in version rounds input = slots_from version rounds [] input.lines input.past
