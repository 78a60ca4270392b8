-- Two texts of lines that have the same line in their midst, where no line before it is that.
use Rattle.std.proofs.Common.{◌≡◌, ℕ, List, [], ◌∷◌, ◌++◌, map, refl, ap, sym, ◌∙◌, append_assoc}
use Rattle.std.specs.Prelude.{◌≢◌}
use Rattle.std.specs.List.{slice_split, join_with_byte}
use Rattle.std.proofs.lemmas.List.Concat.{flat_map-cons}
use Rattle.dr_types.specs.Lines.{line_text, lines_text}
use Rattle.dr_guestfile_law.proofs.Lexing.{AreLines, free_line, free_feed, split_front}
use Rattle.dr_guestfile_lines.specs.Lines.{is_line_feed}

-- none of the lists is this one
abbrev pub AreOthers : List ℕ → List (List ℕ) → Type 0
AreOthers one [] = Unit {0}
AreOthers one (it ∷ its) = (it ≢ one) × AreOthers one its

heads : (a b : List ℕ) (more rest : List (List ℕ)) → a ∷ more ≡ b ∷ rest → a ≡ b
heads a b more rest e = cc

tails : (a b : List ℕ) (more rest : List (List ℕ)) → a ∷ more ≡ b ∷ rest → more ≡ rest
tails a b more rest e = cc

-- what comes before the first of them is the same
pub same_front : (one : List ℕ) (front start xs ys : List (List ℕ)) → AreOthers one front → AreOthers one start
    → front ++ one ∷ xs ≡ start ++ one ∷ ys → front ≡ start
same_front one [] [] xs ys none free e = refl
same_front one [] (b ∷ start) xs ys none free e = absurd (free.0 (sym (heads one b xs (start ++ one ∷ ys) e)))
same_front one (a ∷ front) [] xs ys none free e = absurd (none.0 (heads a one (front ++ one ∷ xs) ys e))
same_front one (a ∷ front) (b ∷ start) xs ys none free e =
    let head = heads a b (front ++ one ∷ xs) (start ++ one ∷ ys) e in
    let tail = same_front one front start xs ys none.1 free.1 (tails a b (front ++ one ∷ xs) (start ++ one ∷ ys) e) in
    ap (λ (it : List ℕ). it ∷ front) head ∙ ap (λ (its : List (List ℕ)). b ∷ its) tail

-- the lines as they are written, without their ends
abbrev pub written : List (List (List ℕ)) → List (List ℕ)
written lines = map (join_with_byte 32) lines

-- the first lines of a text are found again
pub split_lines : (lines : List (List (List ℕ))) (rest : List ℕ) → AreLines lines
    → slice_split is_line_feed (lines_text lines ++ rest) ≡ written lines ++ slice_split is_line_feed rest
unfolding line_text
split_lines [] rest are = refl
split_lines (words ∷ lines) rest are =
    let line = join_with_byte 32 words in
    ap (λ (text : List ℕ). slice_split is_line_feed (text ++ rest)) (flat_map-cons line_text words lines)
    ∙ ap (slice_split is_line_feed) (append_assoc (line ++ 10 ∷ []) (lines_text lines) rest ∙ append_assoc line (10 ∷ []) (lines_text lines ++ rest))
    ∙ split_front is_line_feed line 10 (lines_text lines ++ rest) (free_line is_line_feed refl free_feed words are.0) refl
    ∙ ap (λ (its : List (List ℕ)). line ∷ its) (split_lines lines rest are.1)
