-- The lines of a guest file and their words.
use Rattle.std.specs.Prelude.{ℕ, ◌==◌, ◌||◌, Bool, true, false, List, [], ◌∷◌, filter}
use Rattle.std.specs.List.{slice_split}

-- a line feed
abbrev pub is_line_feed : ℕ → Bool
is_line_feed byte = byte == 10

-- a space or a tab
abbrev pub is_blank : ℕ → Bool
is_blank byte = byte == 32 || byte == 9

-- some bytes, and not none
abbrev pub is_some_word : List ℕ → Bool
is_some_word [] = false
is_some_word (byte ∷ bytes) = true

-- the words of a line: its parts between blanks
abbrev pub words_of : List ℕ → List (List ℕ)
words_of line = filter is_some_word (slice_split is_blank line)

-- what stands before the last part, and the last part where it isn't empty
abbrev pub without_empty_end : List (List ℕ) → List (List ℕ)
without_empty_end [] = []
without_empty_end ([] ∷ []) = []
without_empty_end ((byte ∷ bytes) ∷ []) = (byte ∷ bytes) ∷ []
without_empty_end (line ∷ next ∷ lines) = line ∷ without_empty_end (next ∷ lines)

-- the lines of a text: each ends at a line feed, which the last may lack
abbrev pub lines_of : List ℕ → List (List ℕ)
lines_of text = without_empty_end (slice_split is_line_feed text)
