-- The history that a text says, and that it is the only one.
use Rattle.std.specs.Prelude.{◌≡◌, ℕ, ◌==◌, Bool, List, [], ◌∷◌, Option, Some, None, Result, Ok}
use Rattle.std.specs.Prelude.{Err, All, ◌+◌, length}
use Rattle.std.specs.List.{slice_split}
use Rattle.dr_types.specs.declared.guest.Guest.{Guest}
use Rattle.dr_history.specs.declared.event.Event.{Event}
use Rattle.dr_history.specs.Lines.{FitsLine, text}
use Rattle.dr_history.specs.Journal.{journal_text}
use Rattle.dr_text_law.specs.Events.{event_of}

-- the byte between two words
abbrev pub is_space : ℕ → Bool
is_space byte = byte == 32

-- the byte at the end of a line
abbrev pub is_line_feed : ℕ → Bool
is_line_feed byte = byte == 10

-- the words of a line: its parts between spaces
abbrev pub words_of : List ℕ → List (List ℕ)
words_of line = slice_split is_space line

-- the number of the line that comes after the events so far
abbrev pub next_line : List Event → ℕ
next_line earlier = length earlier + 1

-- the events so far, where nothing stands after the last line feed
abbrev pub ended : List Event → List ℕ → Result (List Event) ℕ
ended earlier [] = Ok earlier
ended earlier (byte ∷ bytes) = Err (next_line earlier)

-- goes on with the event that a line says, or refuses the line of this number
abbrev pub go_on : Option Event → ℕ → (Event → Result (List Event) ℕ) → Result (List Event) ℕ
go_on None number after = Err number
go_on (Some e) number after = after e

-- the events so far and those of the lines, or the number of the first line that isn't an event's
abbrev pub events_from : List Event → List (List ℕ) → Result (List Event) ℕ
events_from earlier [] = Err (next_line earlier)
events_from earlier (last ∷ []) = ended earlier last
events_from earlier (line ∷ next ∷ lines) =
    go_on (event_of (words_of line)) (next_line earlier)
    (λ e. events_from (e ∷ earlier) (next ∷ lines))

-- the history that a text says, with the newest event first
unfoldable pub history_of : List ℕ → Result (List Event) ℕ
history_of bytes = events_from [] (slice_split is_line_feed bytes)

-- a history's text says that history
abbrev pub WrittenIsRead : Type 0
WrittenIsRead = (xs : List Event) → All FitsLine xs → history_of (text xs) ≡ Ok xs

-- only a history's text is read, and each event of the history that it gives has a line of its own
abbrev pub ReadIsWritten : Type 0
ReadIsWritten = (bytes : List ℕ) (xs : List Event) → history_of bytes ≡ Ok xs
    → (text xs ≡ bytes) × All FitsLine xs

-- two histories never have the same text
abbrev pub OneText : Type 0
OneText = (xs ys : List Event) → All FitsLine xs → All FitsLine ys → text xs ≡ text ys → xs ≡ ys

-- two histories of a guest never have the same journal
abbrev pub OneJournal : Type 0
OneJournal = (guest : Guest) (xs ys : List Event) → All FitsLine xs → All FitsLine ys
    → journal_text guest xs ≡ journal_text guest ys → xs ≡ ys
