-- The numbers and bytes that words stand for.
use Rattle.std.specs.Prelude.{ℕ, ◌+◌, ◌*◌, ◌/◌, ◌^◌, ◌&&◌, ◌==◌, Bool, not, nat_lt, nat_le}
use Rattle.std.specs.Prelude.{if◌then◌else◌, List, [], ◌∷◌, length, Option, Some, None}
use Rattle.std.specs.Char.{is_ascii_digit}
use Rattle.std.specs.List.{list_all}
use Rattle.std.specs.Option.{option_map}
use Rattle.std.specs.Result.{result_ok}
use Rattle.std.specs.Str.Parse.{digits_value}
use Rattle.hex.specs.Hex.{decode_of}
use Rattle.dr_types.specs.Spaces.{spaced}

-- 1 to 20 digits
abbrev pub is_decimal_word : List ℕ → Bool
is_decimal_word word =
    not (length word == 0) && nat_le (length word) 20 && list_all is_ascii_digit word

-- a decimal word with a value below 2 ^ 64
abbrev pub decimal_number : List ℕ → Option ℕ
decimal_number word =
    if is_decimal_word word && nat_lt (digits_value 10 word) (2 ^ 64)
    then Some (digits_value 10 word)
    else None

-- the number, where it is in the range from low to high
abbrev pub within : ℕ → ℕ → Option ℕ → Option ℕ
within low high None = None
within low high (Some n) = if nat_le low n && nat_le n high then Some n else None

-- the number that is left of a word that names its space, from 0 to a greatest one
abbrev pub number_in_space : ℕ → ℕ × List ℕ → Option (ℕ × ℕ)
number_in_space most split =
    option_map (λ number. (split.0, number)) (within 0 most (decimal_number split.1))

-- the space and the number that a word says in a file of this version
abbrev pub spaced_number : ℕ → ℕ → List ℕ → Option (ℕ × ℕ)
spaced_number version most word = number_in_space most (spaced version word)

-- a hex word of 1 to so many bytes
abbrev pub hex_bytes : ℕ → List ℕ → Option (List ℕ)
hex_bytes most word =
    if nat_le 1 (length word / 2) && nat_le (length word / 2) most then result_ok (decode_of word)
    else None

-- the number whose bytes these are, the least first
abbrev pub value_of : List ℕ → ℕ
value_of [] = 0
value_of (byte ∷ bytes) = byte + 256 * value_of bytes

-- how many bytes a hex word has, and their number
abbrev pub hex_number : ℕ → List ℕ → Option (ℕ × ℕ)
hex_number most word = option_map (λ bytes. (length bytes, value_of bytes)) (hex_bytes most word)

-- the byte of a hex word of two digits
abbrev pub hex_byte_of : List ℕ → Option ℕ
hex_byte_of word = option_map (λ number. number.1) (hex_number 1 word)
