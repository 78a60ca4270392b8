-- Lines of words, as the text files of this project have them.
use Rattle.std.specs.Prelude.{ℕ, List, [], ◌∷◌, ◌++◌, take, decimal}
use Rattle.std.specs.Int.{w64, to_le_bytes}
use Rattle.std.specs.List.{flat_map, join_with_byte}

-- a line: its words with one space between two, and a line feed
unfoldable pub line_text : List (List ℕ) → List ℕ
line_text words = join_with_byte 32 words ++ 10 ∷ []

abbrev pub lines_text : List (List (List ℕ)) → List ℕ
lines_text lines = flat_map line_text lines

-- a word and a number
abbrev pub named : List ℕ → ℕ → List (List ℕ)
named name number = name ∷ decimal number ∷ []

-- the low bytes of a number, so many of them, the least first
abbrev pub low_bytes : ℕ → ℕ → List ℕ
low_bytes len value = take len (to_le_bytes w64 value)
