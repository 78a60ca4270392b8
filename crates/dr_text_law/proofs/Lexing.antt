-- The words of a line that was written, and what of them can be read.
use Rattle.std.proofs.Common.{◌≡◌, ℕ, ◌^◌, ◌<◌, ◌≤◌, Bool, true, false, cond, ◌&&◌, List, [], ◌∷◌, ◌++◌, map, refl, ap, sym, ◌∙◌, arith, inl, inr}
use Rattle.std.specs.Prelude.{◌==◌, nat_lt, nat_le, All, codes, decimal}
use Rattle.dr_types.specs.Spaces.{spaced_word}
use Rattle.std.specs.Char.{digit_value}
use Rattle.std.specs.List.{slice_split, onto_first, join_with_byte, list_all}
use Rattle.std.specs.Str.Parse.{AllDigits}
use Rattle.std.proofs.lemmas.Bool.{cases_lt, ltb-true}
use Rattle.std.proofs.lemmas.Bool.Decides.{nat_tests}
use Rattle.std.proofs.lemmas.Fmt.{decimal_is_IsNumeral}
use Rattle.std.proofs.lemmas.List.Elements.{All-head, All-tail}
use Rattle.std.proofs.lemmas.List.Splits.{slice_split-cons_yes, slice_split-cons_no}
use Rattle.std.proofs.lemmas.List.Sums.{list_all-from_AllPass}
use Rattle.std.proofs.lemmas.Str.Parse.{digit_from_value}
use Rattle.hex.specs.Hex.{IsBytes, is_hex_digit, encode_lower}
use Rattle.hex.proofs.HexLemmas.{decode_of-encode_lower, decode_of-ok}
use Rattle.dr_text_law.specs.Texts.{is_space, is_line_feed, words_of}

-- no element passes
abbrev pub Free : (ℕ → Bool) → List ℕ → Type 0
Free p [] = Unit {0}
Free p (x ∷ xs) = (p x ≡ false) × Free p xs

-- what stands before the first break is the first part
pub split_front : (p : ℕ → Bool) (xs : List ℕ) (y : ℕ) (ys : List ℕ) → Free p xs → p y ≡ true → slice_split p (xs ++ y ∷ ys) ≡ xs ∷ slice_split p ys
split_front p [] y ys free passes = slice_split-cons_yes p y ys passes
split_front p (x ∷ xs) y ys free passes = slice_split-cons_no p x (xs ++ y ∷ ys) free.0 ∙ ap (onto_first x) (split_front p xs y ys free.1 passes)

-- with no break it is the only part
split_whole : (p : ℕ → Bool) (xs : List ℕ) → Free p xs → slice_split p xs ≡ xs ∷ []
split_whole p [] free = refl
split_whole p (x ∷ xs) free = slice_split-cons_no p x xs free.0 ∙ ap (onto_first x) (split_whole p xs free.1)

-- no element of two lists passes
free_append : (p : ℕ → Bool) (xs ys : List ℕ) → Free p xs → Free p ys → Free p (xs ++ ys)
free_append p [] ys a b = b
free_append p (x ∷ xs) ys a b = (a.0, free_append p xs ys a.1 b)

-- bytes after the space
abbrev pub AllAbove : List ℕ → Type 0
AllAbove [] = Unit {0}
AllAbove (b ∷ bs) = (32 < b) × AllAbove bs

-- words with no space and no line feed
abbrev pub AreWords : List (List ℕ) → Type 0
AreWords [] = Unit {0}
AreWords (word ∷ words) = AllAbove word × AreWords words

-- a byte after the space is neither a space nor a line feed
not_space : (b : ℕ) → 32 < b → is_space b ≡ false
not_space b above = grind (arith, nat_tests)

not_feed : (b : ℕ) → 32 < b → is_line_feed b ≡ false
not_feed b above = grind (arith, nat_tests)

-- no space and no line feed stands among bytes after the space
free_space : (bs : List ℕ) → AllAbove bs → Free is_space bs
free_space [] above = tt
free_space (b ∷ bs) above = (not_space b above.0, free_space bs above.1)

free_feed : (bs : List ℕ) → AllAbove bs → Free is_line_feed bs
free_feed [] above = tt
free_feed (b ∷ bs) above = (not_feed b above.0, free_feed bs above.1)

-- no line feed stands in a line
pub free_line : (words : List (List ℕ)) → AreWords words → Free is_line_feed (join_with_byte 32 words)
free_line [] are = tt
free_line (word ∷ []) are = free_feed word are.0
free_line (word ∷ next ∷ words) are = free_append is_line_feed word (32 ∷ join_with_byte 32 (next ∷ words)) (free_feed word are.0) (refl, free_line (next ∷ words) are.1)

-- the words of a line that was written are those words
pub words_of-joined : (word : List ℕ) (words : List (List ℕ)) → AreWords (word ∷ words) → words_of (join_with_byte 32 (word ∷ words)) ≡ word ∷ words
words_of-joined word [] are = split_whole is_space word (free_space word are.0)
words_of-joined word (next ∷ words) are =
    split_front is_space word 32 (join_with_byte 32 (next ∷ words)) (free_space word are.0) refl
    ∙ ap (λ (ws : List (List ℕ)). word ∷ ws) (words_of-joined next words are.1)

-- both parts of a test
pub both : (a b : Bool) → (a && b) ≡ true → (a ≡ true) × (b ≡ true)
both true b e = (refl, e)
both false b e = absurd cc

-- a word that is written out
pub written : (word : List ℕ) → list_all (λ b. nat_lt 32 b) word ≡ true → AllAbove word
written [] test = tt
written (b ∷ bs) test =
    let h = both (nat_lt 32 b) (list_all (λ b. nat_lt 32 b) bs) test in
    (ltb-true 32 b h.0, written bs h.1)

-- a digit is after the space
above_at : (c : ℕ) → digit_value c < 10 → 32 < c
above_at c below = let range = digit_from_value c below in omega (arith, range)

-- and so are digits
digits_above : (ds : List ℕ) → AllDigits 10 ds → AllAbove ds
digits_above [] digits = tt
digits_above (c ∷ cs) digits = (above_at c digits.0, digits_above cs digits.1)

-- the word of a number of 64 bits, and of 32
pub wide : (n : ℕ) → n < 2 ^ 64 → AllAbove (decimal n)
wide n fits = digits_above (decimal n) (decimal_is_IsNumeral n fits).0.1

above_case : (plain : Bool) (n : ℕ) → n < 2 ^ 64 → AllAbove (cond plain [] (codes "1:") ++ decimal n)
above_case true n fits = wide n fits
above_case false n fits = (omega arith, (omega arith, wide n fits))

-- and of an address with its space
pub spaced_above : (space n : ℕ) → n < 2 ^ 64 → AllAbove (spaced_word space n)
spaced_above space n fits = above_case (space == 0) n fits

pub narrow : (n : ℕ) → n < 2 ^ 32 → AllAbove (decimal n)
narrow n fits = wide n (omega arith)

-- the words of numbers
pub number_words : (ns : List ℕ) → All (λ n. n < 2 ^ 32) ns → AreWords (map decimal ns)
number_words [] fit = tt
number_words (n ∷ ns) fit = (narrow n (All-head (λ n. n < 2 ^ 32) n ns fit), number_words ns (All-tail (λ n. n < 2 ^ 32) n ns fit))

-- no hex digit is before the space
not_digit : (c : ℕ) → c ≤ 32 → is_hex_digit c ≡ false
not_digit c le =
    let a : nat_le 65 c ≡ false = grind (arith, nat_tests) in
    let b : nat_le 97 c ≡ false = grind (arith, nat_tests) in
    let d : nat_le 48 c ≡ false = grind (arith, nat_tests) in
    rw (a, b, d) refl

-- a hex digit is after the space
hex_above_at : (c : ℕ) → is_hex_digit c ≡ true → 32 < c
hex_above_at c is = elim (cases_lt 32 c) [ inl lt ↦ lt | inr le ↦ absurd (let e : true ≡ false = sym is ∙ not_digit c le in cc) ]

-- and so are hex digits
hex_above : (cs : List ℕ) → list_all is_hex_digit cs ≡ true → AllAbove cs
hex_above [] are = tt
hex_above (c ∷ cs) are = let h = both (is_hex_digit c) (list_all is_hex_digit cs) are in (hex_above_at c h.0, hex_above cs h.1)

-- the hex word of bytes
pub hex_word : (bytes : List ℕ) → IsBytes bytes → AllAbove (encode_lower bytes)
hex_word bytes are =
    let digits = decode_of-ok (encode_lower bytes) bytes (decode_of-encode_lower bytes are) in
    hex_above (encode_lower bytes) (list_all-from_AllPass is_hex_digit (encode_lower bytes) digits.1)
