-- The numbers and bytes that the words of an event's line say. Each has one spelling.
use Rattle.std.specs.Prelude.{ℕ, ◌+◌, ◌*◌, ◌^◌, ◌&&◌, nat_lt, if◌then◌else◌, List, [], ◌∷◌, Option}
use Rattle.std.specs.Prelude.{Some, None, decimal}
use Rattle.std.specs.Option.{option_and_then}
use Rattle.std.specs.Result.{result_ok}
use Rattle.std.specs.Str.{bytes_eq}
use Rattle.std.specs.Str.Parse.{digits_value}
use Rattle.hex.specs.Hex.{encode_lower, decode_of}
use Rattle.dr_types.specs.Spaces.{spaced}

-- the next step of a reading, where the first gave a value
infixl 10 ◌>>=◌
abbrev pub ◌>>=◌ : {A B : Type 0} → Option A → (A → Option B) → Option B
read >>= f = option_and_then f read

-- n, where it is below the bound and this is its word
abbrev pub said_so : ℕ → List ℕ → ℕ → List ℕ → Option ℕ
said_so bound spelt n word = if nat_lt n bound && bytes_eq spelt word then Some n else None

-- a decimal number of so many bits, without leading zeros
abbrev pub number : ℕ → List ℕ → Option ℕ
number bits word = said_so (2 ^ bits) (decimal (digits_value 10 word)) (digits_value 10 word) word

-- the number that is left of a word that names its space
abbrev pub number_in_space : ℕ × List ℕ → Option (ℕ × ℕ)
number_in_space split = do
  n ← number 64 split.1
  Some (split.0, n)

-- an address with its space: the prefix `1:` names space 1, and none space 0
abbrev pub spaced_number : List ℕ → Option (ℕ × ℕ)
spaced_number word = number_in_space (spaced 2 word)

-- decimal numbers of so many bits
abbrev pub all_numbers : ℕ → List (List ℕ) → Option (List ℕ)
all_numbers bits [] = Some []
all_numbers bits (word ∷ words) = do
  n ← number bits word
  ns ← all_numbers bits words
  Some (n ∷ ns)

-- the bytes of a hex word in lower case
abbrev pub bytes_of : List ℕ → Option (List ℕ)
bytes_of word = do
  bytes ← result_ok (decode_of word)
  if bytes_eq (encode_lower bytes) word then Some bytes else None

-- the byte, where it is the only one
abbrev pub only_byte : List ℕ → Option ℕ
only_byte [] = None
only_byte (byte ∷ []) = Some byte
only_byte (byte ∷ next ∷ bytes) = None

-- the byte of a hex word of two digits in lower case
abbrev pub one_byte : List ℕ → Option ℕ
one_byte word = do
  bytes ← bytes_of word
  only_byte bytes

-- the number whose bytes these are, the least first
abbrev pub value_of : List ℕ → ℕ
value_of [] = 0
value_of (byte ∷ bytes) = byte + 256 * value_of bytes
