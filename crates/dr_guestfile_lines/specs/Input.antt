-- What is left of a guest file: its lines that aren't skipped, with their numbers and words.
use Rattle.std.specs.Prelude.{ℕ, ◌+◌, ◌==◌, if◌then◌else◌, List, [], ◌∷◌, ◌++◌, length, slice_index}
use Rattle.std.specs.Prelude.{Option, Some, None}
use Rattle.std.specs.Option.{option_to_list}
use Rattle.std.specs.Str.Lines.{strip_carriage_return}
use Rattle.dr_guestfile_lines.specs.declared.lines.Line.{Line}
use Rattle.dr_guestfile_lines.specs.Lines.{lines_of, words_of}

-- a line has these words, unless it is skipped: where it has none, or the first begins with '#'
abbrev pub line_of_words : ℕ → List (List ℕ) → Option Line
line_of_words number [] = None
line_of_words number (word ∷ words) =
    if slice_index word 0 == 35 then None
    else Some (record { number = number; words = word ∷ words })

-- the line of this number: one carriage return at its end is no part of it
abbrev pub line_at : ℕ → List ℕ → Option Line
line_at number text = line_of_words number (words_of (strip_carriage_return text))

-- the lines that aren't skipped, where the first has this number
abbrev pub numbered_from : ℕ → List (List ℕ) → List Line
numbered_from number [] = []
numbered_from number (text ∷ texts) =
    option_to_list (line_at number text) ++ numbered_from (number + 1) texts

-- The lines, and the number of the line after the last.
pub record Input : Type 0 where
  pub lines : List Line
  pub past : ℕ

-- a text after so many lines
abbrev pub input_after : ℕ → List ℕ → Input
input_after number text = record {
  lines = numbered_from (number + 1) (lines_of text);
  past = number + length (lines_of text) + 1;
}

-- a whole text
abbrev pub input_of : List ℕ → Input
input_of text = input_after 0 text
