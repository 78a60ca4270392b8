-- The lines and words of a text that was written as lines of words.
use Rattle.std.proofs.Common.{◌≡◌, ℕ, zero, suc, ◌+◌, ◌^◌, ◌-◌, ◌<◌, ◌≤◌, Bool, true, false, List, [], ◌∷◌, ◌++◌, length, map, Option, Some, refl, ap, ◌∙◌, arith, append_assoc}
use Rattle.std.specs.Prelude.{filter, ◌==◌}
use Rattle.std.specs.List.{slice_split, onto_first, join_with_byte}
use Rattle.std.specs.Str.Lines.{strip_carriage_return}
use Rattle.std.proofs.lemmas.Bool.Decides.{nat_tests}
use Rattle.std.proofs.lemmas.List.Splits.{slice_split-cons_yes, slice_split-cons_no}
use Rattle.std.proofs.lemmas.List.Concat.{flat_map-cons}
use Rattle.std.specs.Prelude.{slice_index, nat_le, nat_lt, decimal}
use Rattle.std.specs.Char.{is_ascii_digit, digit_value}
use Rattle.std.specs.List.{list_all}
use Rattle.std.specs.Option.{option_to_list}
use Rattle.std.specs.Str.Parse.{AllDigits, digits_value}
use Rattle.std.proofs.lemmas.Bool.{le-leb, lt-ltb}
use Rattle.std.proofs.lemmas.Fmt.{decimal_is_IsNumeral, length-decimal-le}
use Rattle.std.proofs.lemmas.Str.Parse.{digit_from_value}
use Rattle.dr_guestfile_lines.specs.declared.lines.Line.{Line}
use Rattle.dr_guestfile_lines.specs.Input.{Input, line_of_words, line_at, numbered_from, input_of}
use Rattle.dr_guestfile_lines.specs.Numbers.{decimal_number}
use Rattle.dr_guestfile_lines.specs.Lines.{is_blank, is_line_feed, is_some_word, words_of, without_empty_end, lines_of}
use Rattle.dr_types.specs.Lines.{line_text, lines_text}

-- no element passes
abbrev pub Free : (ℕ → Bool) → List ℕ → Type 0
Free p [] = Unit {0}
Free p (x ∷ xs) = (p x ≡ false) × Free p xs

pub split_front : (p : ℕ → Bool) (xs : List ℕ) (y : ℕ) (ys : List ℕ) → Free p xs → p y ≡ true → slice_split p (xs ++ y ∷ ys) ≡ xs ∷ slice_split p ys
split_front p [] y ys free passes = slice_split-cons_yes p y ys passes
split_front p (x ∷ xs) y ys free passes = slice_split-cons_no p x (xs ++ y ∷ ys) free.0 ∙ ap (onto_first x) (split_front p xs y ys free.1 passes)

split_whole : (p : ℕ → Bool) (xs : List ℕ) → Free p xs → slice_split p xs ≡ xs ∷ []
split_whole p [] free = refl
split_whole p (x ∷ xs) free = slice_split-cons_no p x xs free.0 ∙ ap (onto_first x) (split_whole p xs free.1)

free_append : (p : ℕ → Bool) (xs ys : List ℕ) → Free p xs → Free p ys → Free p (xs ++ ys)
free_append p [] ys a b = b
free_append p (x ∷ xs) ys a b = (a.0, free_append p xs ys a.1 b)

-- bytes after the space, which no blank and no end of a line is
abbrev pub AllAbove : List ℕ → Type 0
AllAbove [] = Unit {0}
AllAbove (b ∷ bs) = (32 < b) × AllAbove bs

-- words that can be written
abbrev pub AreWords : List (List ℕ) → Type 0
AreWords [] = Unit {0}
AreWords (word ∷ words) = (0 < length word) × AllAbove word × AreWords words

not_blank : (b : ℕ) → 32 < b → is_blank b ≡ false
not_blank b above = grind (arith, nat_tests)

not_feed : (b : ℕ) → 32 < b → is_line_feed b ≡ false
not_feed b above = grind (arith, nat_tests)

not_return : (b : ℕ) → 32 < b → (b == 13) ≡ false
not_return b above = grind (arith, nat_tests)

free_blank : (bs : List ℕ) → AllAbove bs → Free is_blank bs
free_blank [] above = tt
free_blank (b ∷ bs) above = (not_blank b above.0, free_blank bs above.1)

pub free_feed : (bs : List ℕ) → AllAbove bs → Free is_line_feed bs
free_feed [] above = tt
free_feed (b ∷ bs) above = (not_feed b above.0, free_feed bs above.1)

abbrev is_return : ℕ → Bool
is_return b = b == 13

free_return : (bs : List ℕ) → AllAbove bs → Free is_return bs
free_return [] above = tt
free_return (b ∷ bs) above = (not_return b above.0, free_return bs above.1)

-- what holds of the bytes of words and of a space holds of the line
pub free_line : (p : ℕ → Bool) → p 32 ≡ false → ((bs : List ℕ) → AllAbove bs → Free p bs) → (words : List (List ℕ)) → AreWords words → Free p (join_with_byte 32 words)
free_line p space each [] are = tt
free_line p space each (word ∷ []) are = each word are.1
free_line p space each (word ∷ next ∷ words) are = free_append p word (32 ∷ join_with_byte 32 (next ∷ words)) (each word are.1) (space, free_line p space each (next ∷ words) are.2)

split_words : (word : List ℕ) (words : List (List ℕ)) → AreWords (word ∷ words) → slice_split is_blank (join_with_byte 32 (word ∷ words)) ≡ word ∷ words
split_words word [] are = split_whole is_blank word (free_blank word are.1)
split_words word (next ∷ words) are = split_front is_blank word 32 (join_with_byte 32 (next ∷ words)) (free_blank word are.1) refl ∙ ap (λ (ws : List (List ℕ)). word ∷ ws) (split_words next words are.2)

some_words : (words : List (List ℕ)) → AreWords words → filter is_some_word words ≡ words
some_words [] are = refl
some_words ([] ∷ words) are = absurd (omega (arith, are.0))
some_words ((b ∷ bs) ∷ words) are = ap (λ (ws : List (List ℕ)). (b ∷ bs) ∷ ws) (some_words words are.2)

-- the words of a line that was written are those words
pub words_of-line : (words : List (List ℕ)) → AreWords words → words_of (join_with_byte 32 words) ≡ words
words_of-line [] are = refl
words_of-line (word ∷ words) are = ap (filter is_some_word) (split_words word words are) ∙ some_words (word ∷ words) are

abbrev pub AreLines : List (List (List ℕ)) → Type 0
AreLines [] = Unit {0}
AreLines (words ∷ lines) = AreWords words × AreLines lines

split_lines : (lines : List (List (List ℕ))) → AreLines lines → slice_split is_line_feed (lines_text lines) ≡ map (join_with_byte 32) lines ++ [] ∷ []
unfolding line_text
split_lines [] are = refl
split_lines (words ∷ lines) are =
    let line = join_with_byte 32 words in
    let text : lines_text (words ∷ lines) ≡ line ++ 10 ∷ lines_text lines = flat_map-cons line_text words lines ∙ append_assoc line (10 ∷ []) (lines_text lines) in
    ap (slice_split is_line_feed) text ∙ split_front is_line_feed line 10 (lines_text lines) (free_line is_line_feed refl free_feed words are.0) refl
    ∙ ap (λ (others : List (List ℕ)). line ∷ others) (split_lines lines are.1)

ended : (line : List ℕ) (parts : List (List ℕ)) → without_empty_end (line ∷ (parts ++ [] ∷ [])) ≡ line ∷ without_empty_end (parts ++ [] ∷ [])
ended [] [] = refl
ended [] (part ∷ parts) = refl
ended (b ∷ bs) [] = refl
ended (b ∷ bs) (part ∷ parts) = refl

without_end : (parts : List (List ℕ)) → without_empty_end (parts ++ [] ∷ []) ≡ parts
without_end [] = refl
without_end (part ∷ parts) = ended part parts ∙ ap (λ (others : List (List ℕ)). part ∷ others) (without_end parts)

-- the lines of a text that was written are those lines
pub lines_of-text : (lines : List (List (List ℕ))) → AreLines lines → lines_of (lines_text lines) ≡ map (join_with_byte 32) lines
lines_of-text lines are = ap without_empty_end (split_lines lines are) ∙ without_end (map (join_with_byte 32) lines)

-- a written line, as it is read
abbrev pub numbered : ℕ → List (List (List ℕ)) → List Line
numbered number [] = []
numbered number (words ∷ lines) = record { number = number; words = words } ∷ numbered (number + 1) lines

-- the first word begins no comment
abbrev pub AreNoComments : List (List (List ℕ)) → Type 0
AreNoComments [] = Unit {0}
AreNoComments ([] ∷ lines) = ⊥
AreNoComments ((word ∷ words) ∷ lines) = ((slice_index word 0 == 35) ≡ false) × AreNoComments lines

last_at : (xs : List ℕ) (k : ℕ) → Free is_return xs → k < length xs → (slice_index xs k == 13) ≡ false
last_at [] k free lt = absurd (omega arith)
last_at (x ∷ xs) zero free lt = free.0
last_at (x ∷ xs) (suc k) free lt = last_at xs k free.1 (omega arith)

keeps_at : (xs : List ℕ) → Free is_return xs → strip_carriage_return xs ≡ xs
keeps_at [] free = refl
keeps_at (x ∷ xs) free =
    let last : (slice_index (x ∷ xs) (length (x ∷ xs) - 1) == 13) ≡ false = last_at (x ∷ xs) (length (x ∷ xs) - 1) free (omega arith) in
    rw last refl

line_at-written : (number : ℕ) (word : List ℕ) (words : List (List ℕ)) → AreWords (word ∷ words) → (slice_index word 0 == 35) ≡ false
    → line_at number (join_with_byte 32 (word ∷ words)) ≡ Some (record { number = number; words = word ∷ words })
line_at-written number word words are no_comment =
    let line = join_with_byte 32 (word ∷ words) in
    let kept : strip_carriage_return line ≡ line = keeps_at line (free_line is_return refl free_return (word ∷ words) are) in
    ap (λ (bytes : List ℕ). line_of_words number (words_of bytes)) kept ∙ ap (line_of_words number) (words_of-line (word ∷ words) are) ∙ rw no_comment refl

pub numbered_from-written : (number : ℕ) (lines : List (List (List ℕ))) → AreLines lines → AreNoComments lines → numbered_from number (map (join_with_byte 32) lines) ≡ numbered number lines
numbered_from-written number [] are plain = refl
numbered_from-written number ([] ∷ lines) are plain = absurd plain
numbered_from-written number ((word ∷ words) ∷ lines) are plain =
    ap (λ (line : Option Line). option_to_list line ++ numbered_from (number + 1) (map (join_with_byte 32) lines)) (line_at-written number word words are.0 plain.0)
    ∙ ap (λ (others : List Line). record { number = number; words = word ∷ words } ∷ others) (numbered_from-written (number + 1) lines are.1 plain.1)

count_lines : (lines : List (List (List ℕ))) → length (map (join_with_byte 32) lines) ≡ length lines
count_lines [] = refl
count_lines (words ∷ lines) = ap suc (count_lines lines)

-- what was written as lines of words is read as these lines, numbered from 1
pub input_of-text : (lines : List (List (List ℕ))) → AreLines lines → AreNoComments lines → input_of (lines_text lines) ≡ record { lines = numbered 1 lines; past = length lines + 1 }
input_of-text lines are plain =
    let texts = lines_of-text lines are in
    let made : List (List ℕ) → Input = λ ls. record { lines = numbered_from 1 ls; past = length ls + 1 } in
    let start : input_of (lines_text lines) ≡ made (lines_of (lines_text lines)) = ap (λ (n : ℕ). record { lines = numbered_from 1 (lines_of (lines_text lines)); past = n }) (omega arith) in
    start ∙ ap made texts ∙ ap (λ (ls : List Line). record { lines = ls; past = length (map (join_with_byte 32) lines) + 1 }) (numbered_from-written 1 lines are plain)
    ∙ ap (λ (n : ℕ). record { lines = numbered 1 lines; past = n + 1 }) (count_lines lines)

digit_is : (c : ℕ) → digit_value c < 10 → is_ascii_digit c ≡ true
digit_is c below = let range = digit_from_value c below in grind (arith, nat_tests)

digits_are : (ds : List ℕ) → AllDigits 10 ds → list_all is_ascii_digit ds ≡ true
digits_are [] digits = refl
digits_are (c ∷ cs) digits = rw (digit_is c digits.0) (digits_are cs digits.1)

above_at : (c : ℕ) → digit_value c < 10 → 32 < c
above_at c below = let range = digit_from_value c below in omega (arith, range)

-- a written number is a word
pub decimal_above : (ds : List ℕ) → AllDigits 10 ds → AllAbove ds
decimal_above [] digits = tt
decimal_above (c ∷ cs) digits = (above_at c digits.0, decimal_above cs digits.1)

-- a written number is read again
pub decimal_number-decimal : (n : ℕ) → n < 2 ^ 64 → decimal_number (decimal n) ≡ Some n
decimal_number-decimal n fits =
    let numeral = decimal_is_IsNumeral n fits in
    let short : length (decimal n) ≤ 20 = length-decimal-le 20 n (omega arith) (omega arith) fits in
    let a : (length (decimal n) == 0) ≡ false = let some : 0 < length (decimal n) = numeral.0.0 in grind (arith, nat_tests) in
    let b : nat_le (length (decimal n)) 20 ≡ true = le-leb _ _ short in
    let d : list_all is_ascii_digit (decimal n) ≡ true = digits_are (decimal n) numeral.0.1 in
    let e : nat_lt (digits_value 10 (decimal n)) (2 ^ 64) ≡ true = lt-ltb _ _ (rw numeral.1 fits) in
    rw (a, b, d, e) (ap Some numeral.1)
