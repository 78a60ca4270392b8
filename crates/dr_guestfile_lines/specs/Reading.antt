-- Reading from the front, with the first fault that is met.
use Rattle.std.specs.Prelude.{◌≡◌, ◌≢◌, ℕ, Bool, false, if◌then◌else◌, List, [], ◌∷◌, Result, Ok}
use Rattle.std.specs.Prelude.{Err}
use Rattle.std.specs.Option.{ok_or}
use Rattle.dr_types.specs.declared.fault.FileFault.{FileFault}
use Rattle.dr_types.specs.declared.fault.FileFault.TheVariants as fault
use Rattle.dr_guestfile_lines.specs.declared.lines.Line.{Line}
use Rattle.dr_guestfile_lines.specs.Input.{Input}
use Rattle.dr_guestfile_lines.specs.Numbers.{decimal_number, within, spaced_number}
use Rattle.dr_guestfile_lines.specs.Words.{begins_with}

infixl 10 ◌>>=◌
-- what the first gave is handed to the next, unless it is a fault
abbrev pub ◌>>=◌ : {A B : Type 0} → Result A FileFault → (A → Result B FileFault)
    → Result B FileFault
(Ok x) >>= f = f x
(Err e) >>= f = Err e

-- What a function answered, and the input that it left, are what reading gives.
abbrev pub Reads : {X : Type 0} → Result X FileFault → Input → Result (X × Input) FileFault → Type 0
Reads (Ok x) left read = read ≡ Ok (x, left)
Reads (Err e) left read = read ≡ Err e

-- The same, unless memory ran out.
abbrev pub Gives : {X : Type 0} → Result X FileFault → Input → Result (X × Input) FileFault → Type 0
Gives (Ok x) left read = read ≡ Ok (x, left)
Gives (Err e) left read = e ≢ fault.Memory → read ≡ Err e

-- What a function answered is this, unless memory ran out.
abbrev pub Answers : {X : Type 0} → Result X FileFault → Result X FileFault → Type 0
Answers (Ok x) read = read ≡ Ok x
Answers (Err e) read = e ≢ fault.Memory → read ≡ Err e

-- this fault unless the test holds
abbrev pub check : Bool → FileFault → Result (Unit {0}) FileFault
check holds e = if holds then Ok tt else Err e

-- the next line
abbrev pub next_of : List Line → ℕ → Result (Line × Input) FileFault
next_of [] past = Err (fault.Line past)
next_of (line ∷ lines) past = Ok (line, record { lines = lines; past = past })

-- the next line of an input
abbrev pub line_in : Input → Result (Line × Input) FileFault
line_in input = next_of input.lines input.past

-- a word of this line that has to be a decimal number in this range
abbrev pub number_of : ℕ → ℕ → List ℕ → ℕ → Result ℕ FileFault
number_of low high word line = ok_or (within low high (decimal_number word)) (fault.Number line)

-- a word of this line that has to be a number, with its space, in a file of this version
abbrev pub spaced_number_of : ℕ → ℕ → List ℕ → ℕ → Result (ℕ × ℕ) FileFault
spaced_number_of version most word line =
    ok_or (spaced_number version most word) (fault.Number line)

-- the next line begins with this word
abbrev pub next_begins : List ℕ → List Line → Bool
next_begins name [] = false
next_begins name (line ∷ lines) = begins_with name line.words

-- the number of the next line, or that of the line after the last
abbrev pub number_after : List Line → ℕ → ℕ
number_after [] past = past
number_after (line ∷ lines) past = line.number

-- the number of the next line of an input
abbrev pub next_number : Input → ℕ
next_number input = number_after input.lines input.past
