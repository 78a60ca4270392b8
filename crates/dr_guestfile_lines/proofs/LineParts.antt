-- The first line of a text, and the rest.
use Rattle.std.proofs.Common.{◌≡◌, ℕ, ◌+◌, ◌-◌, ◌<◌, ◌≤◌, Bool, true, false, not, cond, List, [], ◌∷◌, length, take, drop, Some, None, refl, sym, ap, subst, ◌∙◌, arith, length-drop, drop_of_length-le}
use Rattle.std.proofs.Math.Seq.{take-length}
use Rattle.std.specs.Prelude.{position}
use Rattle.std.specs.List.{slice_split, onto_first, position_or_len}
use Rattle.std.proofs.lemmas.List.Splits.{slice_split_first, slice_split-cons_no}
use Rattle.dr_guestfile_lines.specs.Lines.{is_line_feed, without_empty_end, lines_of}
use Rattle.dr_guestfile_lines.proofs.WordParts.{found_within, not_found, has_first}

before_more : (line : List ℕ) (parts : List (List ℕ)) (next : List ℕ) (more : List (List ℕ)) → parts ≡ next ∷ more → without_empty_end (line ∷ parts) ≡ line ∷ without_empty_end parts
before_more [] parts next more e = rw e refl
before_more (x ∷ xs) parts next more e = rw e refl

pub take_rest : (n : ℕ) (xs : List ℕ) → take (length xs - n) (drop n xs) ≡ drop n xs
take_rest n xs = rw (← length-drop n xs) (take-length (drop n xs))

-- a line that ends at a line feed
pub lines_of-cut : (text : List ℕ) (at : ℕ) → Some at ≡ position is_line_feed text → lines_of text ≡ take at text ∷ lines_of (drop (at + 1) text)
lines_of-cut text at e =
    let h = found_within is_line_feed text at e in
    let place = position_or_len is_line_feed text in
    let within : place < length text = omega (arith, h) in
    let rest = drop (place + 1) text in
    let next = has_first is_line_feed rest in
    let one : lines_of text ≡ take place text ∷ lines_of rest =
    ap without_empty_end (slice_split_first is_line_feed text 0 within) ∙ before_more (take place text) (slice_split is_line_feed rest) (take (position_or_len is_line_feed rest) rest) next.rest next.split in
    subst (λ (n : ℕ). lines_of text ≡ take n text ∷ lines_of (drop (n + 1) text)) (sym h.0) one

no_feed_at : (x : ℕ) (xs : List ℕ) (b : Bool) → is_line_feed x ≡ b → (length xs ≡ position_or_len is_line_feed xs → slice_split is_line_feed xs ≡ xs ∷ [])
    → length (x ∷ xs) ≡ cond (not b) (1 + position_or_len is_line_feed xs) 0 → slice_split is_line_feed (x ∷ xs) ≡ (x ∷ xs) ∷ []
no_feed_at x xs true is rest none = absurd (omega arith)
no_feed_at x xs false is rest none = slice_split-cons_no is_line_feed x xs is ∙ ap (onto_first x) (rest (omega arith))

no_feed : (xs : List ℕ) → length xs ≡ position_or_len is_line_feed xs → slice_split is_line_feed xs ≡ xs ∷ []
no_feed [] none = refl
no_feed (x ∷ xs) none = no_feed_at x xs (is_line_feed x) refl (no_feed xs) none

only_line : (text : List ℕ) → 0 < length text → without_empty_end (text ∷ []) ≡ text ∷ []
only_line [] some = absurd (omega arith)
only_line (x ∷ xs) some = refl

-- a last line without a line feed
pub lines_of-last : (text : List ℕ) → None ≡ position is_line_feed text → 0 < length text → lines_of text ≡ text ∷ lines_of (drop (length text) text)
lines_of-last text e some =
    let none : drop (length text) text ≡ [] = drop_of_length-le text (let e : length text ≤ length text = omega arith in e) in
    ap without_empty_end (no_feed text (not_found is_line_feed text e)) ∙ only_line text some ∙ ap (λ (rest : List ℕ). text ∷ lines_of rest) (sym none)
