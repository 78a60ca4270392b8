-- The lines of a script.
use Rattle.std.specs.Prelude.{ℕ, ◌+◌, ◌-◌, ◌/◌, ◌%◌, ◌^◌, nat_le, is_some, List, [], ◌∷◌, Option}
use Rattle.std.specs.Prelude.{Some, Result, Ok, Err}
use Rattle.std.specs.Option.{ok_or}
use Rattle.dr_types.specs.declared.fault.FileFault.{FileFault}
use Rattle.dr_types.specs.declared.fault.FileFault.TheVariants as fault
use Rattle.dr_types.specs.declared.guest.SlotRow.{SlotRow}
use Rattle.dr_types.specs.declared.guest.Op.{Op}
use Rattle.dr_types.specs.declared.guest.Op.TheVariants.{W, F, R, A, S, Nap, Halt}
use Rattle.dr_types.specs.Pages.{page_of_frame}
use Rattle.dr_guestfile.specs.declared.keyword.Keyword.{Keyword}
use Rattle.dr_guestfile.specs.declared.keyword.Keyword.TheVariants as keyword
use Rattle.dr_guestfile_lines.specs.Numbers.{hex_number, hex_byte_of}
use Rattle.dr_guestfile_lines.specs.Reading.{◌>>=◌, check, number_of, spaced_number_of}
use Rattle.dr_guestfile_lines.specs.Words.{one_word, two_words}

-- the greatest number of 64 bits
abbrev pub greatest : ℕ
greatest = 2 ^ 64 - 1

-- so many bytes from an address lie in a slot of its space, and in one page
abbrev pub placed : List SlotRow → ℕ → ℕ → ℕ → ℕ → Result (Unit {0}) FileFault
placed slots space address bytes line = do
  mapped ← check (is_some (page_of_frame slots space (address / 4096))) (fault.Unmapped line)
  check (nat_le (address % 4096 + bytes) 4096) (fault.CrossPage line)

-- w ADDR HEX
unfoldable pub write_of : ℕ → List SlotRow → List (List ℕ) → ℕ → Result Op FileFault
write_of version slots arguments line = do
  words ← ok_or (two_words arguments) (fault.Line line)
  address ← spaced_number_of version greatest words.0 line
  bytes ← ok_or (hex_number 8 words.1) (fault.Number line)
  there ← placed slots address.0 address.1 bytes.0 line
  Ok (W address.0 address.1 bytes.0 bytes.1)

-- f GFN HH
unfoldable pub fill_of : ℕ → List SlotRow → List (List ℕ) → ℕ → Result Op FileFault
fill_of version slots arguments line = do
  words ← ok_or (two_words arguments) (fault.Line line)
  frame ← spaced_number_of version greatest words.0 line
  byte ← ok_or (hex_byte_of words.1) (fault.Number line)
  mapped ← check (is_some (page_of_frame slots frame.0 frame.1)) (fault.Unmapped line)
  Ok (F frame.0 frame.1 byte)

-- r ADDR
unfoldable pub read_of : ℕ → List SlotRow → List (List ℕ) → ℕ → Result Op FileFault
read_of version slots arguments line = do
  word ← ok_or (one_word arguments) (fault.Line line)
  address ← spaced_number_of version greatest word line
  there ← placed slots address.0 address.1 8 line
  Ok (R address.0 address.1)

-- a N
unfoldable pub add_of : List (List ℕ) → ℕ → Result Op FileFault
add_of arguments line = do
  word ← ok_or (one_word arguments) (fault.Line line)
  number ← number_of 0 greatest word line
  Ok (A number)

-- s ADDR
unfoldable pub store_of : ℕ → List SlotRow → List (List ℕ) → ℕ → Result Op FileFault
store_of version slots arguments line = do
  word ← ok_or (one_word arguments) (fault.Line line)
  address ← spaced_number_of version greatest word line
  there ← placed slots address.0 address.1 8 line
  Ok (S address.0 address.1)

-- nap US
unfoldable pub nap_of : List (List ℕ) → ℕ → Result Op FileFault
nap_of arguments line = do
  word ← ok_or (one_word arguments) (fault.Line line)
  us ← number_of 0 10000 word line
  Ok (Nap us)

-- halt
unfoldable pub halt_of : List (List ℕ) → ℕ → Result Op FileFault
halt_of [] line = Ok Halt
halt_of (word ∷ words) line = Err (fault.Line line)

-- the op of a line that begins with this keyword
unfoldable pub op_of : ℕ → List SlotRow → Option Keyword → List (List ℕ) → ℕ → Result Op FileFault
op_of version slots (Some keyword.Write) arguments line = write_of version slots arguments line
op_of version slots (Some keyword.Fill) arguments line = fill_of version slots arguments line
op_of version slots (Some keyword.Read) arguments line = read_of version slots arguments line
op_of version slots (Some keyword.Add) arguments line = add_of arguments line
op_of version slots (Some keyword.Store) arguments line = store_of version slots arguments line
op_of version slots (Some keyword.Nap) arguments line = nap_of arguments line
op_of version slots (Some keyword.Halt) arguments line = halt_of arguments line
op_of version slots _ arguments line = Err (fault.Line line)

-- `halt` ends a script, and no repeated part of it
abbrev pub going_on : ℕ → Op → Result Op FileFault
going_on line Halt = Err (fault.Line line)
going_on line op = Ok op

-- the op of a line in a repeated part
unfoldable pub op_of_body : ℕ → List SlotRow → Option Keyword → List (List ℕ) → ℕ
    → Result Op FileFault
op_of_body version slots keyword arguments line =
    op_of version slots keyword arguments line >>= going_on line
