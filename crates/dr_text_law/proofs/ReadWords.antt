-- What words that say a number or bytes are.
use Rattle.std.proofs.Common.{◌≡◌, ℕ, zero, suc, ◌^◌, ◌<◌, ◌≤◌, Bool, true, false, ◌&&◌, cond, List, [], ◌∷◌, ◌++◌, length, map, take, drop, Option, Some, None, Result, Ok, Err, refl, ap, sym, subst, ◌∙◌, arith, length-drop}
use Rattle.std.specs.Prelude.{nat_lt, All, decimal}
use Rattle.std.specs.Int.{w64, from_le_bytes, to_le_bytes}
use Rattle.std.specs.Result.{result_ok}
use Rattle.std.specs.Str.{bytes_eq}
use Rattle.std.specs.Str.Parse.{digits_value}
use Rattle.std.proofs.Math.Nat.{pow-succ'}
use Rattle.std.proofs.Math.Seq.{take-append_seam}
use Rattle.std.proofs.lemmas.Bool.{ltb-true}
use Rattle.std.proofs.lemmas.List.{length-append}
use Rattle.std.proofs.lemmas.List.Elements.{All-nil, All-cons}
use Rattle.std.proofs.lemmas.Nat.{le_bytes_8}
use Rattle.std.proofs.lemmas.Slice.Eq.{bytes_eq-Decides}
use Rattle.hex.specs.declared.error.FromHexError.{FromHexError}
use Rattle.hex.specs.Hex.{IsBytes, encode_lower, decode_of}
use Rattle.hex.proofs.HexLemmas.{decode_of-ok}
use Rattle.dr_types.specs.Lines.{low_bytes}
use Rattle.dr_types.specs.Spaces.{space_prefix, spaced_word, spaced}
use Rattle.dr_types.proofs.Spaces.{spaced_says, spaced_few}
use Rattle.dr_text_law.specs.Words.{◌>>=◌, said_so, number, spaced_number, all_numbers, bytes_of, only_byte, one_byte, value_of}
use Rattle.dr_text_law.proofs.Lexing.{both}

-- bytes that test as equal are the same
pub equal : (xs ys : List ℕ) → bytes_eq xs ys ≡ true → xs ≡ ys
equal xs ys = (bytes_eq-Decides xs ys).0

-- what is given where a test holds
pub when : {A : Type 0} (test : Bool) (x y : A) → cond test (Some x) None ≡ Some y → (test ≡ true) × (x ≡ y)
when true x y is = (refl, cc)
when false x y is = absurd cc

-- reading that gave something, taken apart at its first step
pub record Steps {A B : Type 0} (m : Option A) (f : A → Option B) (y : B) : Type 0 where
  pub value : A
  pub is : m ≡ Some value
  pub next : f value ≡ Some y

-- a reading that gave something, at its first step
pub steps : {A B : Type 0} (m : Option A) (f : A → Option B) (y : B) → (m >>= f) ≡ Some y → Steps m f y
steps None f y e = absurd cc
steps (Some x) f y e = record { value = x; is = refl; next = e }

-- what a said number is
said_says : (bound : ℕ) (spelt : List ℕ) (n : ℕ) (word : List ℕ) (m : ℕ) → said_so bound spelt n word ≡ Some m → (n ≡ m) × (spelt ≡ word) × (n < bound)
said_says bound spelt n word m is =
    let tested = when (nat_lt n bound && bytes_eq spelt word) n m is in
    let two = both (nat_lt n bound) (bytes_eq spelt word) tested.0 in
    (tested.1, equal spelt word two.1, ltb-true n bound two.0)

-- a word that says a number is its word
number_says : (bits : ℕ) (word : List ℕ) (n : ℕ) → number bits word ≡ Some n → (decimal n ≡ word) × (n < 2 ^ bits)
number_says bits word n is =
    let said = said_says (2 ^ bits) (decimal (digits_value 10 word)) (digits_value 10 word) word n is in
    (ap decimal (sym said.0) ∙ said.1, subst (λ (m : ℕ). m < 2 ^ bits) said.0 said.2)

-- the same, where the first step is a number's word
pub record Takes {B : Type 0} (bits : ℕ) (word : List ℕ) (f : ℕ → Option B) (y : B) : Type 0 where
  pub value : ℕ
  pub word_is : decimal value ≡ word
  pub fits : value < 2 ^ bits
  pub next : f value ≡ Some y

pub takes : {B : Type 0} (bits : ℕ) (word : List ℕ) (f : ℕ → Option B) (y : B) → (number bits word >>= f) ≡ Some y → Takes bits word f y
takes bits word f y is =
    let step = steps (number bits word) f y is in
    let says = number_says bits word step.value step.is in
    record { value = step.value; word_is = says.0; fits = says.1; next = step.next }

-- the same, where the first step is the word of an address with its space
pub record TakesSpaced {B : Type 0} (word : List ℕ) (f : ℕ × ℕ → Option B) (y : B) : Type 0 where
  pub value : ℕ × ℕ
  pub word_is : spaced_word value.0 value.1 ≡ word
  pub space : value.0 ≤ 1
  pub fits : value.1 < 2 ^ 64
  pub next : f value ≡ Some y

pub takes_spaced : {B : Type 0} (word : List ℕ) (f : ℕ × ℕ → Option B) (y : B) → (spaced_number word >>= f) ≡ Some y → TakesSpaced word f y
takes_spaced word f y is =
    let step = steps (spaced_number word) f y is in
    let n = steps (number 64 (spaced 2 word).1) _ _ step.is in
    let says = number_says 64 (spaced 2 word).1 n.value n.is in
    let pair : ℕ × ℕ = ((spaced 2 word).0, n.value) in
    let same : pair ≡ step.value = cc n.next in
    let whole : spaced_word pair.0 pair.1 ≡ word = ap (λ (rest : List ℕ). space_prefix (spaced 2 word).0 ++ rest) says.0 ∙ spaced_says 2 word in
    record {
      value = step.value;
      word_is = subst (λ (x : ℕ × ℕ). spaced_word x.0 x.1 ≡ word) same whole;
      space = subst (λ (x : ℕ × ℕ). x.0 ≤ 1) same (spaced_few 2 word);
      fits = subst (λ (x : ℕ × ℕ). x.1 < 2 ^ 64) same says.1;
      next = step.next;
    }

-- a list that was given is the one that was read
list_is : {xs ys : List ℕ} → Some xs ≡ Some ys → xs ≡ ys
list_is e = cc

-- words that say numbers are theirs
pub numbers_say : (words : List (List ℕ)) (ns : List ℕ) → all_numbers 32 words ≡ Some ns → (map decimal ns ≡ words) × All (λ n. n < 2 ^ 32) ns
numbers_say [] ns is = subst (λ (ms : List ℕ). (map decimal ms ≡ []) × All (λ n. n < 2 ^ 32) ms) (list_is is) (refl, All-nil (λ n. n < 2 ^ 32))
numbers_say (word ∷ words) ns is =
    let a = takes 32 word _ _ is in
    let b = steps (all_numbers 32 words) _ _ a.next in
    let rest = numbers_say words b.value b.is in
    subst (λ (ms : List ℕ). (map decimal ms ≡ word ∷ words) × All (λ n. n < 2 ^ 32) ms) (list_is b.next)
    (rw (a.word_is, rest.0) refl, All-cons (λ n. n < 2 ^ 32) a.value b.value a.fits rest.1)

-- bytes that were given were decoded
decoded : (read : Result (List ℕ) FromHexError) (bytes : List ℕ) → result_ok read ≡ Some bytes → read ≡ Ok bytes
decoded (Ok xs) bytes is = ap Ok (list_is is)
decoded (Err fault) bytes is = absurd cc

-- a word that says bytes is their hex word
pub bytes_say : (word bytes : List ℕ) → bytes_of word ≡ Some bytes → (encode_lower bytes ≡ word) × IsBytes bytes
bytes_say word bytes is =
    let a = steps (result_ok (decode_of word)) _ bytes is in
    let tested = when (bytes_eq (encode_lower a.value) word) a.value bytes a.next in
    subst (λ (bs : List ℕ). (encode_lower bs ≡ word) × IsBytes bs) tested.1
    (equal (encode_lower a.value) word tested.0, (decode_of-ok word a.value (decoded (decode_of word) a.value a.is)).3)

-- the only byte
only_is : (bytes : List ℕ) (n : ℕ) → only_byte bytes ≡ Some n → bytes ≡ n ∷ []
only_is [] n is = absurd cc
only_is (byte ∷ []) n is = let e : byte ≡ n = cc in ap (λ (b : ℕ). b ∷ []) e
only_is (byte ∷ next ∷ bytes) n is = absurd cc

-- a word that says a byte is its hex word
pub one_byte_says : (word : List ℕ) (n : ℕ) → one_byte word ≡ Some n → (encode_lower (n ∷ []) ≡ word) × (n < 256)
one_byte_says word n is =
    let a = steps (bytes_of word) _ n is in
    let says = bytes_say word a.value a.is in
    let only = only_is a.value n a.next in
    (ap encode_lower (sym only) ∙ says.0, subst IsBytes only says.1 0)

-- what fills up bytes to eight
abbrev eight_zeros : List ℕ
eight_zeros = 0 ∷ 0 ∷ 0 ∷ 0 ∷ 0 ∷ 0 ∷ 0 ∷ 0 ∷ []

-- the number of up to eight bytes is that of eight, the last of them 0
value_whole : (bytes : List ℕ) → length bytes ≤ 8 → from_le_bytes w64 (bytes ++ drop (length bytes) eight_zeros) ≡ value_of bytes
value_whole [] h = refl
value_whole (a ∷ []) h = omega arith
value_whole (a ∷ b ∷ []) h = omega arith
value_whole (a ∷ b ∷ c ∷ []) h = omega arith
value_whole (a ∷ b ∷ c ∷ d ∷ []) h = omega arith
value_whole (a ∷ b ∷ c ∷ d ∷ e ∷ []) h = omega arith
value_whole (a ∷ b ∷ c ∷ d ∷ e ∷ f ∷ []) h = omega arith
value_whole (a ∷ b ∷ c ∷ d ∷ e ∷ f ∷ g ∷ []) h = omega arith
value_whole (a ∷ b ∷ c ∷ d ∷ e ∷ f ∷ g ∷ i ∷ []) h = omega arith
value_whole (a ∷ b ∷ c ∷ d ∷ e ∷ f ∷ g ∷ i ∷ j ∷ bytes) h = absurd (omega arith)

-- the number of bytes fits them
value_fits : (bytes : List ℕ) → IsBytes bytes → value_of bytes < 256 ^ length bytes
value_fits [] are = omega arith
value_fits (b ∷ bytes) are =
    let first : b < 256 = are 0 in
    let rest = value_fits bytes (λ k. are (suc k)) in
    omega (arith, first, rest, pow-succ' 256 (length bytes))

-- bytes and bytes are bytes
are_append : (xs ys : List ℕ) → IsBytes xs → IsBytes ys → IsBytes (xs ++ ys)
are_append [] ys a b k = b k
are_append (x ∷ xs) ys a b zero = a 0
are_append (x ∷ xs) ys a b (suc k) = are_append xs ys (λ j. a (suc j)) b k

-- the rest of bytes are bytes
are_drop : (n : ℕ) (xs : List ℕ) → IsBytes xs → IsBytes (drop n xs)
are_drop zero xs are k = are k
are_drop (suc n) [] are k = are k
are_drop (suc n) (x ∷ xs) are k = are_drop n xs (λ j. are (suc j)) k

-- zeros are bytes
zeros_are : IsBytes eight_zeros
zeros_are zero = omega arith
zeros_are (suc zero) = omega arith
zeros_are (suc (suc zero)) = omega arith
zeros_are (suc (suc (suc zero))) = omega arith
zeros_are (suc (suc (suc (suc zero)))) = omega arith
zeros_are (suc (suc (suc (suc (suc zero))))) = omega arith
zeros_are (suc (suc (suc (suc (suc (suc zero)))))) = omega arith
zeros_are (suc (suc (suc (suc (suc (suc (suc zero))))))) = omega arith
zeros_are (suc (suc (suc (suc (suc (suc (suc (suc k)))))))) = omega arith

-- up to eight bytes are those of their number
pub low_says : (bytes : List ℕ) → length bytes ≤ 8 → IsBytes bytes
    → (low_bytes (length bytes) (value_of bytes) ≡ bytes) × (value_of bytes < 256 ^ length bytes)
low_says bytes few are =
    let zeros = drop (length bytes) eight_zeros in
    let whole = bytes ++ zeros in
    let long : length whole ≡ 8 = omega (arith, length-append bytes zeros, length-drop (length bytes) eight_zeros) in
    let back : to_le_bytes w64 (value_of bytes) ≡ whole =
    le_bytes_8 whole (value_of bytes) long (are_append bytes zeros are (are_drop (length bytes) eight_zeros zeros_are)) (sym (value_whole bytes few)) in
    (ap (take (length bytes)) back ∙ take-append_seam bytes zeros, value_fits bytes are)
