-- The first word of a line, and the rest.
use Rattle.std.proofs.Common.{◌≡◌, ℕ, zero, suc, ◌+◌, ◌<◌, ◌≤◌, Bool, true, false, not, cond, List, [], ◌∷◌, length, take, drop, filter, Some, None, refl, sym, ap, subst, length-take, ◌∙◌, arith, inl, inr}
use Rattle.std.specs.Prelude.{position, nat_lt}
use Rattle.std.specs.List.{slice_split, onto_first, position_or_len}
use Rattle.std.proofs.lemmas.Bool.{cases_lt, le-ltb, lt-ltb}
use Rattle.std.proofs.lemmas.List.Splits.{slice_split-cons_yes, slice_split-cons_no}
use Rattle.std.proofs.lemmas.List.Sums.{prefix_len-le-length}
use Rattle.dr_guestfile_lines.specs.Lines.{is_blank, is_some_word, words_of}

found_at : (b : Bool) (place at len : ℕ) → place ≤ len → Some at ≡ cond b (Some place) None → (at ≡ place) × (at ≤ len)
found_at true place at len le e = let same : at ≡ place = cc in (same, omega arith)
found_at false place at len le e = absurd cc

-- the first place that passes
pub found : (p : ℕ → Bool) (xs : List ℕ) (at : ℕ) → Some at ≡ position p xs → (at ≡ position_or_len p xs) × (at ≤ length xs)
found p xs at e = found_at (nat_lt (position_or_len p xs) (length xs)) (position_or_len p xs) at (length xs) (prefix_len-le-length (λ x. not (p x)) xs) e

some_is : {x y : ℕ} → Some x ≡ Some y → x ≡ y
some_is e = cc

none_some : {x : ℕ} → None ≡ Some x → ⊥
none_some e = cc

not_found_at : (place len : ℕ) → place ≤ len → None ≡ cond (nat_lt place len) (Some place) None → len ≡ place
not_found_at place len le e = elim (cases_lt place len) [
  | inl lt ↦ absurd (none_some (rw lt-ltb at e))
  | inr ge ↦ omega arith
]

found_within_at : (place at len : ℕ) → place ≤ len → Some at ≡ cond (nat_lt place len) (Some place) None → (at ≡ place) × (place < len)
found_within_at place at len le e = elim (cases_lt place len) [
  | inl lt ↦ (some_is (rw lt-ltb at e), lt)
  | inr ge ↦ absurd (none_some (sym (rw le-ltb at e)))
]

pub found_within : (p : ℕ → Bool) (xs : List ℕ) (at : ℕ) → Some at ≡ position p xs → (at ≡ position_or_len p xs) × (position_or_len p xs < length xs)
found_within p xs at e = found_within_at (position_or_len p xs) at (length xs) (prefix_len-le-length (λ x. not (p x)) xs) e

-- where none passes, it stands for the length
pub not_found : (p : ℕ → Bool) (xs : List ℕ) → None ≡ position p xs → length xs ≡ position_or_len p xs
not_found p xs e = not_found_at (position_or_len p xs) (length xs) (prefix_len-le-length (λ x. not (p x)) xs) e

-- the parts between the elements that pass, but for the empty ones
abbrev pub parts : (ℕ → Bool) → List ℕ → List (List ℕ)
parts p xs = filter is_some_word (slice_split p xs)

parts-cons_yes : (p : ℕ → Bool) (x : ℕ) (xs : List ℕ) → p x ≡ true → parts p (x ∷ xs) ≡ parts p xs
parts-cons_yes p x xs passes = ap (filter is_some_word) (slice_split-cons_yes p x xs passes)

drop_one_more : (n : ℕ) (x : ℕ) (xs : List ℕ) → drop (1 + n) (x ∷ xs) ≡ drop n xs
drop_one_more n x xs = let e : 1 + n ≡ suc n = omega arith in rw e refl

skip_at : (p : ℕ → Bool) (x : ℕ) (xs : List ℕ) (b : Bool) → p x ≡ b → parts p (drop (position_or_len (λ y. not (p y)) xs) xs) ≡ parts p xs
    → parts p (drop (cond (not (not b)) (1 + position_or_len (λ y. not (p y)) xs) 0) (x ∷ xs)) ≡ parts p (x ∷ xs)
skip_at p x xs true is rest = ap (parts p) (drop_one_more (position_or_len (λ y. not (p y)) xs) x xs) ∙ rest ∙ sym (parts-cons_yes p x xs is)
skip_at p x xs false is rest = refl

-- the parts after those in front are all the parts
pub parts-skip : (p : ℕ → Bool) (xs : List ℕ) → parts p (drop (position_or_len (λ y. not (p y)) xs) xs) ≡ parts p xs
parts-skip p [] = refl
parts-skip p (x ∷ xs) = skip_at p x xs (p x) refl (parts-skip p xs)

-- after the elements in front that pass comes one that doesn't, or nothing
stops_at : (p : ℕ → Bool) (x : ℕ) (xs : List ℕ) (b : Bool) → p x ≡ b → (position_or_len p (drop (position_or_len (λ y. not (p y)) xs) xs) ≡ 0 → drop (position_or_len (λ y. not (p y)) xs) xs ≡ [])
    → position_or_len p (drop (cond (not (not b)) (1 + position_or_len (λ y. not (p y)) xs) 0) (x ∷ xs)) ≡ 0 → drop (cond (not (not b)) (1 + position_or_len (λ y. not (p y)) xs) 0) (x ∷ xs) ≡ []
stops_at p x xs true is rest none =
    let e = drop_one_more (position_or_len (λ y. not (p y)) xs) x xs in
    e ∙ rest (ap (position_or_len p) (sym e) ∙ none)
stops_at p x xs false is rest none = absurd (omega (arith, counted none)) where
  counted : position_or_len p (x ∷ xs) ≡ 0 → 1 + position_or_len p xs ≡ 0
  counted zero_is = rw is at zero_is

pub stops : (p : ℕ → Bool) (xs : List ℕ) → position_or_len p (drop (position_or_len (λ y. not (p y)) xs) xs) ≡ 0 → drop (position_or_len (λ y. not (p y)) xs) xs ≡ []
stops p [] none = refl
stops p (x ∷ xs) none = stops_at p x xs (p x) refl (stops p xs) none

-- the first part, and the rest
pub record HasFirst (p : ℕ → Bool) (xs : List ℕ) (n : ℕ) : Type 0 where
  pub rest : List (List ℕ)
  pub split : slice_split p xs ≡ take n xs ∷ rest
  pub others : filter is_some_word rest ≡ parts p (drop n xs)

take_one_more : (n : ℕ) (x : ℕ) (xs : List ℕ) → take (1 + n) (x ∷ xs) ≡ x ∷ take n xs
take_one_more n x xs = let e : 1 + n ≡ suc n = omega arith in rw e refl

first_at : (p : ℕ → Bool) (x : ℕ) (xs : List ℕ) (b : Bool) → p x ≡ b → HasFirst p xs (position_or_len p xs) → HasFirst p (x ∷ xs) (cond (not b) (1 + position_or_len p xs) 0)
first_at p x xs true is h = record { rest = slice_split p xs; split = slice_split-cons_yes p x xs is; others = sym (parts-cons_yes p x xs is) }
first_at p x xs false is h = record {
  rest = h.rest;
  split = slice_split-cons_no p x xs is ∙ ap (onto_first x) h.split ∙ ap (λ (part : List ℕ). part ∷ h.rest) (sym (take_one_more (position_or_len p xs) x xs));
  others = h.others ∙ ap (parts p) (sym (drop_one_more (position_or_len p xs) x xs));
}

pub has_first : (p : ℕ → Bool) (xs : List ℕ) → HasFirst p xs (position_or_len p xs)
has_first p [] = record { rest = []; split = refl; others = refl }
has_first p (x ∷ xs) = first_at p x xs (p x) refl (has_first p xs)

filter_some : (part : List ℕ) (rest : List (List ℕ)) → 0 < length part → filter is_some_word (part ∷ rest) ≡ part ∷ filter is_some_word rest
filter_some [] rest some = absurd (omega arith)
filter_some (x ∷ part) rest some = refl

-- the first part that isn't empty, and the parts after it
pub parts-first : (p : ℕ → Bool) (xs : List ℕ) → 0 < length (take (position_or_len p xs) xs) → parts p xs ≡ take (position_or_len p xs) xs ∷ parts p (drop (position_or_len p xs) xs)
parts-first p xs some =
    let h = has_first p xs in
    ap (filter is_some_word) h.split ∙ filter_some (take (position_or_len p xs) xs) h.rest some ∙ ap (λ (others : List (List ℕ)). take (position_or_len p xs) xs ∷ others) h.others

-- what taking a word does: it skips the blanks, and takes the bytes up to the next blank
pub record TakesWord (line word after : List ℕ) : Type 0 where
  pub rest : List ℕ
  pub skips : rest ≡ drop (position_or_len (λ byte. not (is_blank byte)) line) line
  pub takes : word ≡ take (position_or_len is_blank rest) rest
  pub leaves : after ≡ drop (position_or_len is_blank rest) rest

pub words_of-next : (line word after : List ℕ) → TakesWord line word after → 0 < length word → words_of line ≡ word ∷ words_of after
words_of-next line word after t some =
    let rest = t.rest in
    sym (parts-skip is_blank line) ∙ ap words_of (sym t.skips) ∙ parts-first is_blank rest (subst (λ (w : List ℕ). 0 < length w) t.takes some)
    ∙ ap (λ (w : List ℕ). w ∷ words_of (drop (position_or_len is_blank rest) rest)) (sym t.takes) ∙ ap (λ (bytes : List ℕ). word ∷ words_of bytes) (sym t.leaves)

nothing_taken : (p : ℕ → Bool) (rest word : List ℕ) → word ≡ take (position_or_len p rest) rest → length word ≡ 0 → position_or_len p rest ≡ 0
nothing_taken p rest word e none = omega (arith, ap length e, length-take (position_or_len p rest) rest, prefix_len-le-length (λ x. not (p x)) rest)

drop_nil : (n : ℕ) → drop n (let nothing : List ℕ = [] in nothing) ≡ []
drop_nil zero = refl
drop_nil (suc n) = refl

drop_of_nil : (n : ℕ) (rest : List ℕ) → rest ≡ [] → drop n rest ≡ []
drop_of_nil n rest e = ap (drop n) e ∙ drop_nil n

pub words_of-none : (line word after : List ℕ) → TakesWord line word after → length word ≡ 0 → (words_of line ≡ []) × (words_of after ≡ [])
words_of-none line word after t none =
    let zero_is = nothing_taken is_blank t.rest word t.takes none in
    let empty : t.rest ≡ [] = t.skips ∙ stops is_blank line (ap (position_or_len is_blank) (sym t.skips) ∙ zero_is) in
    (sym (parts-skip is_blank line) ∙ ap words_of (sym t.skips) ∙ ap words_of empty, ap words_of (t.leaves ∙ drop_of_nil (position_or_len is_blank t.rest) t.rest empty))
