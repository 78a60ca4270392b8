-- The words of numbers and bytes say these again.
use Rattle.std.proofs.Common.{◌≡◌, ℕ, zero, suc, ◌^◌, ◌<◌, ◌≤◌, true, List, [], ◌∷◌, length, map, take, Some, refl, ap, ◌∙◌, arith, length-take, inl, inr}
use Rattle.std.specs.Prelude.{nat_lt, ◌==◌, All, decimal}
use Rattle.std.specs.Int.{w64, to_le_bytes}
use Rattle.std.specs.Str.{bytes_eq}
use Rattle.std.specs.Str.Parse.{digits_value}
use Rattle.std.proofs.lemmas.Bool.{lt-ltb, cases_lt}
use Rattle.std.proofs.lemmas.Bool.Decides.{nat_tests}
use Rattle.std.proofs.lemmas.Fmt.{decimal_is_IsNumeral}
use Rattle.std.proofs.lemmas.List.{get_or-take, get_or_past}
use Rattle.std.proofs.lemmas.List.Elements.{All-head, All-tail}
use Rattle.hex.specs.Hex.{IsBytes, encode_lower}
use Rattle.hex.proofs.HexLemmas.{decode_of-encode_lower}
use Rattle.dr_types.specs.Lines.{low_bytes}
use Rattle.dr_types.specs.Spaces.{spaced_word}
use Rattle.dr_types.proofs.Spaces.{spaced_again}
use Rattle.dr_text_law.specs.Words.{◌>>=◌, said_so, number, number_in_space, spaced_number, all_numbers, bytes_of, only_byte, one_byte, value_of}

-- bytes are the same as themselves
same : (bs : List ℕ) → bytes_eq bs bs ≡ true
same [] = refl
same (b ∷ bs) = let e : (b == b) ≡ true = grind (arith, nat_tests) in rw e (same bs)

-- a number that is below the bound and has this word is said
said_again : (bound n : ℕ) (word : List ℕ) → n < bound → said_so bound word n word ≡ Some n
said_again bound n word fits = let below : nat_lt n bound ≡ true = lt-ltb _ _ fits in rw (below, same word) refl

-- the word of a number says it
number_again : (bits n : ℕ) → n < 2 ^ bits → n < 2 ^ 64 → number bits (decimal n) ≡ Some n
number_again bits n fits wide =
    let value : digits_value 10 (decimal n) ≡ n = (decimal_is_IsNumeral n wide).1 in
    ap (λ (m : ℕ). said_so (2 ^ bits) (decimal m) m (decimal n)) value ∙ said_again (2 ^ bits) n (decimal n) fits

-- the word of a number of 32 bits, and of 64
pub u32_again : (n : ℕ) → n < 2 ^ 32 → number 32 (decimal n) ≡ Some n
u32_again n fits = number_again 32 n fits (omega arith)

pub u64_again : (n : ℕ) → n < 2 ^ 64 → number 64 (decimal n) ≡ Some n
u64_again n fits = number_again 64 n fits fits

-- the word of an address with its space says both
pub spaced_number_again : (space n : ℕ) → space ≤ 1 → n < 2 ^ 64 → spaced_number (spaced_word space n) ≡ Some (space, n)
spaced_number_again space n few fits =
    ap number_in_space (spaced_again 2 space n (omega arith) (omega arith) (omega (arith, few)) fits) ∙ rw (u64_again n fits) refl

-- the words of numbers say them
pub numbers_again : (ns : List ℕ) → All (λ n. n < 2 ^ 32) ns → all_numbers 32 (map decimal ns) ≡ Some ns
numbers_again [] fit = refl
numbers_again (n ∷ ns) fit = rw (u32_again n (All-head (λ n. n < 2 ^ 32) n ns fit), numbers_again ns (All-tail (λ n. n < 2 ^ 32) n ns fit)) refl

-- the hex word of bytes says them
pub bytes_again : (bytes : List ℕ) → IsBytes bytes → bytes_of (encode_lower bytes) ≡ Some bytes
bytes_again bytes are = rw (decode_of-encode_lower bytes are, same (encode_lower bytes)) refl

-- a byte alone
pub is_byte : (byte : ℕ) → byte < 256 → IsBytes (byte ∷ [])
is_byte byte fits zero = fits
is_byte byte fits (suc k) = omega arith

-- the hex word of a byte says it
pub byte_again : (byte : ℕ) → byte < 256 → one_byte (encode_lower (byte ∷ [])) ≡ Some byte
byte_again byte fits = ap (λ read. read >>= only_byte) (bytes_again (byte ∷ []) (is_byte byte fits))

-- the eight bytes of a number
eight_fit : (value : ℕ) → IsBytes (to_le_bytes w64 value)
eight_fit value zero = omega arith
eight_fit value (suc zero) = omega arith
eight_fit value (suc (suc zero)) = omega arith
eight_fit value (suc (suc (suc zero))) = omega arith
eight_fit value (suc (suc (suc (suc zero)))) = omega arith
eight_fit value (suc (suc (suc (suc (suc zero))))) = omega arith
eight_fit value (suc (suc (suc (suc (suc (suc zero)))))) = omega arith
eight_fit value (suc (suc (suc (suc (suc (suc (suc zero))))))) = omega arith
eight_fit value (suc (suc (suc (suc (suc (suc (suc (suc k)))))))) = omega arith

-- the low bytes of a number
pub low_fit : (len value : ℕ) → IsBytes (low_bytes len value)
low_fit len value k =
    elim (cases_lt k len) [
      | inl lt ↦ rw (get_or-take len (to_le_bytes w64 value) k 0 lt) (eight_fit value k)
      | inr le ↦ rw (get_or_past (take len (to_le_bytes w64 value)) k 0 (omega (arith, length-take len (to_le_bytes w64 value)))) (omega arith)
    ]

-- the low bytes of a number that they hold make it again
pub value_again : (len value : ℕ) → 1 ≤ len → len ≤ 8 → value < 256 ^ len → value_of (low_bytes len value) ≡ value
value_again zero value some few fits = absurd (omega arith)
value_again (suc zero) value some few fits = omega arith
value_again (suc (suc zero)) value some few fits = omega arith
value_again (suc (suc (suc zero))) value some few fits = omega arith
value_again (suc (suc (suc (suc zero)))) value some few fits = omega arith
value_again (suc (suc (suc (suc (suc zero))))) value some few fits = omega arith
value_again (suc (suc (suc (suc (suc (suc zero)))))) value some few fits = omega arith
value_again (suc (suc (suc (suc (suc (suc (suc zero))))))) value some few fits = omega arith
value_again (suc (suc (suc (suc (suc (suc (suc (suc zero)))))))) value some few fits = omega arith
value_again (suc (suc (suc (suc (suc (suc (suc (suc (suc len))))))))) value some few fits = absurd (omega arith)

-- how many low bytes there are
pub low_long : (len value : ℕ) → len ≤ 8 → length (low_bytes len value) ≡ len
low_long len value few = omega (arith, length-take len (to_le_bytes w64 value))
