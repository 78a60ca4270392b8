-- How a text names an address space.
use Rattle.std.specs.Prelude.{Bool, ℕ, ◌==◌, ◌&&◌, if◌then◌else◌, List, [], ◌++◌, take, drop}
use Rattle.std.specs.Prelude.{codes, decimal}
use Rattle.std.specs.Str.{bytes_eq}

-- what stands before a number of an address space: `1:` names space 1, and nothing space 0
abbrev pub space_prefix : ℕ → List ℕ
space_prefix space = if space == 0 then [] else codes "1:"

-- an address, a frame or a slot's id, with its address space
abbrev pub spaced_word : ℕ → ℕ → List ℕ
spaced_word space number = space_prefix space ++ decimal number

-- the word names space 1, which it can't in version 1
abbrev pub names_space_1 : ℕ → List ℕ → Bool
names_space_1 version word = version == 2 && bytes_eq (codes "1:") (take 2 word)

-- the space that a word names, and what is left of the word
abbrev pub spaced : ℕ → List ℕ → ℕ × List ℕ
spaced version word = if names_space_1 version word then (1, drop 2 word) else (0, word)
