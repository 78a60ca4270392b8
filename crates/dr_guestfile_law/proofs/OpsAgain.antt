-- An op that was written is read again.
use Rattle.std.proofs.Common.{◌≡◌, ℕ, zero, suc, ◌+◌, ◌/◌, ◌%◌, ◌^◌, ◌<◌, ◌≤◌, true, List, [], ◌∷◌, length, Option, Some, Result, Ok, refl, ap, ◌∙◌, arith, length-take, take, inl, inr}
use Rattle.std.specs.Prelude.{nat_le, decimal, is_some, All}
use Rattle.std.proofs.lemmas.Bool.{cases_lt, le-leb}
use Rattle.std.proofs.lemmas.List.{get_or-take, get_or_past}
use Rattle.std.specs.Option.{option_map}
use Rattle.hex.specs.Hex.{IsBytes, lower_digits, encode_lower}
use Rattle.hex.proofs.HexLemmas.{length-encode_with, decode_of-encode_lower}
use Rattle.dr_types.specs.declared.fault.FileFault.{FileFault}
use Rattle.dr_types.specs.declared.guest.SlotRow.{SlotRow}
use Rattle.dr_types.specs.declared.guest.Op.{Op}
use Rattle.dr_types.specs.declared.guest.Op.TheVariants.{W, F, R, A, S, Nap, Halt}
use Rattle.dr_types.specs.Validity.{Lies, IsOp}
use Rattle.dr_guestfile.specs.Keywords.{first_keyword}
use Rattle.dr_guestfile_lines.specs.Numbers.{value_of, hex_number, hex_byte_of}
use Rattle.dr_guestfile.specs.OpLines.{greatest, placed, write_of, fill_of, read_of, add_of, store_of, nap_of, halt_of, op_of}
use Rattle.dr_guestfile_lines.specs.Reading.{number_of, spaced_number_of}
use Rattle.dr_guestfile_lines.specs.Words.{words_after}
use Rattle.dr_types.specs.GuestText.{op_line}
use Rattle.dr_types.specs.Lines.{low_bytes}
use Rattle.dr_types.specs.Pages.{page_of_frame}
use Rattle.dr_types.specs.Spaces.{spaced_word}
use Rattle.dr_guestfile_law.proofs.Again.{number_again, spaced_number_again}
use Rattle.dr_slots.proofs.Spaces.{mapped_below}
use Rattle.dr_guestfile_lines.proofs.Numerals.{counted}
use Rattle.std.specs.Int.{w64, to_le_bytes}

abbrev no_fault : Result (Unit {0}) FileFault
no_fault = Ok tt

placed_again : (slots : List SlotRow) (space address bytes line : ℕ) → Lies slots space address bytes → placed slots space address bytes line ≡ no_fault
placed_again slots space address bytes line lies = let fits : nat_le (address % 4096 + bytes) 4096 ≡ true = le-leb _ _ lies.in_page in rw (lies.mapped, fits) refl

-- slots whose spaces are those of a version
pub record HasSpaces (version : ℕ) (slots : List SlotRow) : Type 0 where
  pub some : 1 ≤ version
  pub few : version ≤ 2
  pub below : All (λ row. row.space < version) slots

place_again : (version space n line : ℕ) (slots : List SlotRow) (frame : ℕ) → HasSpaces version slots → is_some (page_of_frame slots space frame) ≡ true → n < 2 ^ 64
    → spaced_number_of version greatest (spaced_word space n) line ≡ Ok (space, n)
place_again version space n line slots frame has mapped fits =
    spaced_number_again version greatest space n line has.some has.few (mapped_below slots 0 space frame version has.below mapped) (omega arith) fits

any_again : (n line : ℕ) → n < 2 ^ 64 → number_of 0 greatest (decimal n) line ≡ Ok n
any_again n line fits = number_again 0 greatest n line (omega arith) (omega arith) fits

pub one_byte : (byte : ℕ) → byte < 256 → IsBytes (byte ∷ [])
one_byte byte fits zero = fits
one_byte byte fits (suc k) = omega arith

abbrev some_number : ℕ → Option ℕ
some_number n = Some n

hex_is : (most : ℕ) (bytes : List ℕ) → 1 ≤ length bytes → length bytes ≤ most → IsBytes bytes → hex_number most (encode_lower bytes) ≡ Some (length bytes, value_of bytes)
hex_is most bytes some few fits =
    let half : length (encode_lower bytes) / 2 ≡ length bytes = omega (arith, length-encode_with lower_digits bytes) in
    let a : nat_le 1 (length bytes) ≡ true = le-leb _ _ some in
    let b : nat_le (length bytes) most ≡ true = le-leb _ _ few in
    rw (half, a, b, decode_of-encode_lower bytes fits) refl

byte_again : (byte : ℕ) → byte < 256 → hex_byte_of (encode_lower (byte ∷ [])) ≡ Some byte
byte_again byte fits = ap (option_map (λ (number : ℕ × ℕ). number.1)) (hex_is 1 (byte ∷ []) (omega arith) (omega arith) (one_byte byte fits)) ∙ ap some_number (omega arith)

value_again : (len value : ℕ) → 1 ≤ len → len ≤ 8 → value < 256 ^ len → value_of (low_bytes len value) ≡ value
value_again zero value some few fits = absurd (omega arith)
value_again (suc zero) value some few fits = omega arith
value_again (suc (suc zero)) value some few fits = omega arith
value_again (suc (suc (suc zero))) value some few fits = omega arith
value_again (suc (suc (suc (suc zero)))) value some few fits = omega arith
value_again (suc (suc (suc (suc (suc zero))))) value some few fits = omega arith
value_again (suc (suc (suc (suc (suc (suc zero)))))) value some few fits = omega arith
value_again (suc (suc (suc (suc (suc (suc (suc zero))))))) value some few fits = omega arith
value_again (suc (suc (suc (suc (suc (suc (suc (suc zero)))))))) value some few fits = omega arith
value_again (suc (suc (suc (suc (suc (suc (suc (suc (suc len))))))))) value some few fits = absurd (omega arith)

eight_fit : (value : ℕ) → IsBytes (to_le_bytes w64 value)
eight_fit value zero = omega arith
eight_fit value (suc zero) = omega arith
eight_fit value (suc (suc zero)) = omega arith
eight_fit value (suc (suc (suc zero))) = omega arith
eight_fit value (suc (suc (suc (suc zero)))) = omega arith
eight_fit value (suc (suc (suc (suc (suc zero))))) = omega arith
eight_fit value (suc (suc (suc (suc (suc (suc zero)))))) = omega arith
eight_fit value (suc (suc (suc (suc (suc (suc (suc zero))))))) = omega arith
eight_fit value (suc (suc (suc (suc (suc (suc (suc (suc k)))))))) = omega arith

pub bytes_fit : (len value : ℕ) → IsBytes (low_bytes len value)
bytes_fit len value k =
    elim (cases_lt k len) [
      | inl lt ↦ rw (get_or-take len (to_le_bytes w64 value) k 0 lt) (eight_fit value k)
      | inr le ↦ rw (get_or_past (take len (to_le_bytes w64 value)) k 0 (omega (arith, length-take len (to_le_bytes w64 value)))) (omega arith)
    ]

hex_again : (len value : ℕ) → 1 ≤ len → len ≤ 8 → value < 256 ^ len → hex_number 8 (encode_lower (low_bytes len value)) ≡ Some (len, value)
hex_again len value some few fits =
    let long : length (low_bytes len value) ≡ len = omega (arith, length-take len (to_le_bytes w64 value)) in
    hex_is 8 (low_bytes len value) (omega arith) (omega arith) (bytes_fit len value) ∙ ap (λ (n : ℕ). counted n (value_of (low_bytes len value))) long ∙ ap (counted len) (value_again len value some few fits)

-- an op's line is read as that op
pub op_again : (version : ℕ) (slots : List SlotRow) (op : Op) (line : ℕ) → HasSpaces version slots → IsOp slots op → op_of version slots (first_keyword (op_line op)) (words_after (op_line op)) line ≡ Ok op
unfolding op_of write_of fill_of read_of add_of store_of nap_of halt_of
op_again version slots (W space address len value) line has is = rw (place_again version space address line slots (address / 4096) has is.4.mapped is.0, hex_again len value is.1 is.2 is.3, placed_again slots space address len line is.4) refl
op_again version slots (F space frame byte) line has is = rw (place_again version space frame line slots frame has is.2 is.0, byte_again byte is.1, is.2) refl
op_again version slots (R space address) line has is = rw (place_again version space address line slots (address / 4096) has is.1.mapped is.0, placed_again slots space address 8 line is.1) refl
op_again version slots (A n) line has is = rw (any_again n line is) refl
op_again version slots (S space address) line has is = rw (place_again version space address line slots (address / 4096) has is.1.mapped is.0, placed_again slots space address 8 line is.1) refl
op_again version slots (Nap us) line has is = rw (number_again 0 10000 us line (omega arith) is (omega (arith, is))) refl
op_again version slots Halt line has is = absurd is

pub halt_again : (version : ℕ) (slots : List SlotRow) (line : ℕ) → op_of version slots (first_keyword (op_line Halt)) (words_after (op_line Halt)) line ≡ Ok Halt
unfolding op_of halt_of
halt_again version slots line = refl
