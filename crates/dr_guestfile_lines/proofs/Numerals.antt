-- Decimal words, as `parse` reads them.
use Rattle.std.proofs.Common.{◌≡◌, ℕ, zero, suc, ◌/◌, ◌%◌, ◌^◌, ◌<◌, ◌≤◌, Bool, true, false, not, cond, ◌&&◌, List, [], ◌∷◌, ◌++◌, length, drop, Option, Some, None, Result, Ok, Err, refl, sym, ap, subst, ◌∙◌, arith, inl, inr}
use Rattle.std.specs.Prelude.{nat_lt, nat_le, ◌==◌}
use Rattle.std.specs.Char.{is_ascii_digit, digit_value}
use Rattle.std.specs.Int.{IsInRange, w64, from_le_bytes}
use Rattle.std.specs.List.{list_all}
use Rattle.std.specs.Str.Parse.{AllDigits, IsNumeral, digits_value, without_leading_plus, ParsesUnsigned}
use Rattle.std.specs.Str.{IsUtf8}
use Rattle.std.proofs.lemmas.Str.{IsUtf8-from_ascii}
use Rattle.std.proofs.lemmas.Fmt.{IsAscii-from_digits}
use Rattle.std.proofs.lemmas.Str.Parse.{digit_from_value}
use Rattle.std.proofs.lemmas.Bool.{cases_lt, lt-ltb, le-ltb}
use Rattle.std.proofs.lemmas.Bool.Decides.{nat_tests}
use Rattle.std.specs.Result.{MatchResult}
use Rattle.std.proofs.lemmas.Bool.{le-leb, leb-true}
use Rattle.std.proofs.Math.Nat.{pow-succ'}
use Rattle.hex.specs.Hex.{decode_of, decode_sized, IsBytes}
use Rattle.hex.specs.declared.error.FromHexError.{FromHexError}
use Rattle.std.specs.Prelude.{IfSome}
use Rattle.std.specs.Option.{option_map}
use Rattle.hex.proofs.HexLemmas.{decode_of-ok}
use Rattle.dr_guestfile_lines.specs.Numbers.{is_decimal_word, decimal_number, value_of, hex_number}
use Rattle.std.specs.Result.{result_ok}

digit_bound : (c : ℕ) → is_ascii_digit c ≡ true → (48 ≤ c) × (c ≤ 57)
digit_bound c is = grind (arith, nat_tests)

digit_below : (c : ℕ) → (48 ≤ c) × (c ≤ 57) → digit_value c < 10
digit_below c h = grind (arith, nat_tests)

both : (a b : Bool) → (a && b) ≡ true → (a ≡ true) × (b ≡ true)
both true b e = (refl, e)
both false b e = absurd cc

pub all_digits : (word : List ℕ) → list_all is_ascii_digit word ≡ true → AllDigits 10 word
all_digits [] is = tt
all_digits (c ∷ cs) is =
    let h = both (is_ascii_digit c) (list_all is_ascii_digit cs) is in
    (digit_below c (digit_bound c h.0), all_digits cs h.1)

some_at : (n : ℕ) → not (n == 0) ≡ true → 0 < n
some_at zero is = absurd cc
some_at (suc n) is = omega arith

no_plus_at : (c : ℕ) (cs : List ℕ) → IsInRange 48 57 c → without_leading_plus (c ∷ cs) ≡ c ∷ cs
no_plus_at c cs range = let differs : (c == 43) ≡ false = grind (arith, nat_tests) in rw differs refl

pub decimal_digits : (word : List ℕ) → is_decimal_word word ≡ true → (0 < length word) × AllDigits 10 word
decimal_digits word is =
    let h = both (not (length word == 0) && nat_le (length word) 20) (list_all is_ascii_digit word) is in
    (some_at (length word) (both (not (length word == 0)) (nat_le (length word) 20) h.0).0, all_digits word h.1)

pub decimal_is_text : (word : List ℕ) → is_decimal_word word ≡ true → IsUtf8 word
decimal_is_text word is = IsUtf8-from_ascii word (IsAscii-from_digits word (decimal_digits word is).1)

no_plus : (word : List ℕ) → 0 < length word → AllDigits 10 word → without_leading_plus word ≡ word
no_plus [] some digits = refl
no_plus (c ∷ cs) some digits = no_plus_at c cs (digit_from_value c digits.0)

-- what `parse` reads
parsed_ok : (word : List ℕ) (n : ℕ) → is_decimal_word word ≡ true → digits_value 10 word < 2 ^ 64 → n ≡ digits_value 10 word → Some n ≡ decimal_number word
parsed_ok word n is lt same = let test : nat_lt (digits_value 10 word) (2 ^ 64) ≡ true = lt-ltb _ _ lt in rw (is, test) (ap Some same)

parsed_err : (word : List ℕ) → is_decimal_word word ≡ true → 2 ^ 64 ≤ digits_value 10 word → None ≡ decimal_number word
parsed_err word is ge = let test : nat_lt (digits_value 10 word) (2 ^ 64) ≡ false = le-ltb _ _ ge in rw (is, test) refl

pub read_number : {E : Type 0} (word : List ℕ) (r : Result ℕ E) → is_decimal_word word ≡ true → ParsesUnsigned 64 10 word r → result_ok r ≡ decimal_number word
read_number word (Ok n) is parsed =
    let d = decimal_digits word is in
    let whole = no_plus word d.0 d.1 in
    let lt : digits_value 10 word < 2 ^ 64 = subst (λ (ds : List ℕ). digits_value 10 ds < 2 ^ 64) whole parsed.0.1 in
    parsed_ok word n is lt (parsed.1 ∙ ap (digits_value 10) whole)
read_number word (Err e) is parsed =
    let d = decimal_digits word is in
    let whole = no_plus word d.0 d.1 in
    elim (cases_lt (digits_value 10 word) (2 ^ 64)) [
      | inl lt ↦ absurd (parsed (subst (λ (ds : List ℕ). IsNumeral 10 ds × (digits_value 10 ds < 2 ^ 64)) (sym whole) (d, lt)))
      | inr ge ↦ parsed_err word is ge
    ]

abbrev pub eight_zeros : List ℕ
eight_zeros = 0 ∷ 0 ∷ 0 ∷ 0 ∷ 0 ∷ 0 ∷ 0 ∷ 0 ∷ []

-- the number of up to eight bytes is that of eight, the last of them 0
pub value_of-le : (bytes : List ℕ) → length bytes ≤ 8 → from_le_bytes w64 (bytes ++ drop (length bytes) eight_zeros) ≡ value_of bytes
value_of-le [] h = refl
value_of-le (a ∷ []) h = omega arith
value_of-le (a ∷ b ∷ []) h = omega arith
value_of-le (a ∷ b ∷ c ∷ []) h = omega arith
value_of-le (a ∷ b ∷ c ∷ d ∷ []) h = omega arith
value_of-le (a ∷ b ∷ c ∷ d ∷ e ∷ []) h = omega arith
value_of-le (a ∷ b ∷ c ∷ d ∷ e ∷ f ∷ []) h = omega arith
value_of-le (a ∷ b ∷ c ∷ d ∷ e ∷ f ∷ g ∷ []) h = omega arith
value_of-le (a ∷ b ∷ c ∷ d ∷ e ∷ f ∷ g ∷ i ∷ []) h = omega arith
value_of-le (a ∷ b ∷ c ∷ d ∷ e ∷ f ∷ g ∷ i ∷ j ∷ bytes) h = absurd (omega arith)

same_test : (n : ℕ) → (n == n) ≡ true
same_test n = grind (arith, nat_tests)

sized_at : (word : List ℕ) (odd : Bool) → (length word % 2 == 1) ≡ odd → decode_sized word (length word / 2) ≡ decode_of word
sized_at word true is = rw is refl
sized_at word false is = rw (is, same_test (length word / 2)) refl

-- room for half as many bytes as the word has digits
sized : (word : List ℕ) → decode_sized word (length word / 2) ≡ decode_of word
sized word = sized_at word (length word % 2 == 1) refl

hex_number_is : (most : ℕ) (word bytes : List ℕ) → 1 ≤ length word / 2 → length word / 2 ≤ most → decode_of word ≡ Ok bytes → hex_number most word ≡ Some (length bytes, value_of bytes)
hex_number_is most word bytes low high e =
    let a : nat_le 1 (length word / 2) ≡ true = le-leb _ _ low in
    let b : nat_le (length word / 2) most ≡ true = le-leb _ _ high in
    rw (a, b, e) refl

abbrev found_value : Option (Unit {0})
found_value = Some tt

no_value : found_value ≡ None → ⊥
no_value h = cc

abbrev pub counted : ℕ → ℕ → Option (ℕ × ℕ)
counted n value = Some (n, value)

read_at : (most n value : ℕ) (word out : List ℕ) (r : Result (Unit {0}) FromHexError) (decoded : Result (List ℕ) FromHexError) → n ≡ length word / 2 → 1 ≤ n → n ≤ most → most ≤ 8 → length out ≡ n
    → decode_of word ≡ decoded → MatchResult decoded (λ bytes. (r ≡ Ok tt) × (out ≡ bytes)) (λ e. r ≡ Err e) → result_ok r ≡ found_value
    → value ≡ from_le_bytes w64 (out ++ drop n eight_zeros) → Some (n, value) ≡ hex_number most word
read_at most n value word out r (Ok bytes) half low high eight len is matched ok e =
    let valued : value ≡ value_of out = e ∙ ap (λ (k : ℕ). from_le_bytes w64 (out ++ drop k eight_zeros)) (sym len) ∙ value_of-le out (omega arith) in
    ap (λ (k : ℕ). counted k value) (sym len) ∙ ap (counted (length out)) valued ∙ ap (λ (bytes : List ℕ). counted (length bytes) (value_of bytes)) matched.1 ∙ sym (hex_number_is most word bytes (omega arith) (omega arith) is)
read_at most n value word out r (Err e) half low high eight len is matched ok given = absurd (no_value (sym ok ∙ ap result_ok matched))

-- what decoding into the front of eight bytes reads
pub read_hex : (most n value room : ℕ) (word out : List ℕ) (r : Result (Unit {0}) FromHexError) → n ≡ length word / 2 → 1 ≤ n → n ≤ most → most ≤ 8 → room ≡ n → length out ≡ room
    → MatchResult (decode_sized word room) (λ bytes. (r ≡ Ok tt) × (out ≡ bytes)) (λ e. r ≡ Err e) → result_ok r ≡ found_value
    → value ≡ from_le_bytes w64 (out ++ drop n eight_zeros) → Some (n, value) ≡ hex_number most word
read_hex most n value room word out r half low high eight room_is len matched ok e =
    let whole : decode_sized word room ≡ decode_of word = ap (decode_sized word) (room_is ∙ half) ∙ sized word in
    read_at most n value word out r (decode_of word) half low high eight (len ∙ room_is) refl (subst (λ (d : Result (List ℕ) FromHexError). MatchResult d (λ bytes. (r ≡ Ok tt) × (out ≡ bytes)) (λ e. r ≡ Err e)) whole matched) ok e

-- a number of so many bytes
pub value_of-below : (bytes : List ℕ) → length bytes ≤ 1 → IsBytes bytes → value_of bytes < 256
value_of-below [] h fits = omega arith
value_of-below (b ∷ []) h fits = omega (arith, fits 0)
value_of-below (b ∷ c ∷ bytes) h fits = absurd (omega arith)

abbrev IsByteIfOne : Option (ℕ × ℕ) → Type 0
IsByteIfOne found = IfSome found (λ f. f.0 ≤ 1 → f.1 < 256)

hex_at : (word : List ℕ) (tested : Bool) (d : Result (List ℕ) FromHexError) → decode_of word ≡ d → IsByteIfOne (option_map (λ bytes. (length bytes, value_of bytes)) (cond tested (result_ok d) None))
hex_at word true (Ok bytes) e = λ h. value_of-below bytes h (decode_of-ok word bytes e).3
hex_at word true (Err x) e = tt
hex_at word false (Ok bytes) e = tt
hex_at word false (Err x) e = tt

-- one byte's number is below 256
pub hex_number-byte : (most : ℕ) (word : List ℕ) (found : Option (ℕ × ℕ)) → found ≡ hex_number most word → IfSome found (λ f. f.0 ≤ 1 → f.1 < 256)
hex_number-byte most word found e = subst IsByteIfOne (sym e) (hex_at word (nat_le 1 (length word / 2) && nat_le (length word / 2) most) (decode_of word) refl)

pub value_of-fits : (bytes : List ℕ) → IsBytes bytes → value_of bytes < 256 ^ length bytes
value_of-fits [] fits = omega arith
value_of-fits (b ∷ bytes) fits = omega (arith, fits 0, value_of-fits bytes (λ i. fits (suc i)), pow-succ' 256 (length bytes))

abbrev AreBytes : ℕ → Option (ℕ × ℕ) → Type 0
AreBytes most found = IfSome found (λ f. (1 ≤ f.0) × (f.0 ≤ most) × (f.1 < 256 ^ f.0))

bytes_at : (most : ℕ) (word : List ℕ) (tested : Bool) (d : Result (List ℕ) FromHexError) → (nat_le 1 (length word / 2) && nat_le (length word / 2) most) ≡ tested → decode_of word ≡ d
    → AreBytes most (option_map (λ bytes. (length bytes, value_of bytes)) (cond tested (result_ok d) None))
bytes_at most word true (Ok bytes) test e =
    let ok = decode_of-ok word bytes e in
    let range = both (nat_le 1 (length word / 2)) (nat_le (length word / 2) most) test in
    let low : 1 ≤ length word / 2 = leb-true _ _ range.0 in
    let high : length word / 2 ≤ most = leb-true _ _ range.1 in
    (omega (arith, ok.2), omega (arith, ok.2), value_of-fits bytes ok.3)
bytes_at most word true (Err x) test e = tt
bytes_at most word false (Ok bytes) test e = tt
bytes_at most word false (Err x) test e = tt

-- the number fits its bytes
pub hex_number-fits : (most : ℕ) (word : List ℕ) (found : Option (ℕ × ℕ)) → found ≡ hex_number most word → IfSome found (λ f. (1 ≤ f.0) × (f.0 ≤ most) × (f.1 < 256 ^ f.0))
hex_number-fits most word found e = subst (AreBytes most) (sym e) (bytes_at most word (nat_le 1 (length word / 2) && nat_le (length word / 2) most) (decode_of word) refl refl)
