-- One page of an image that is written.
use Rattle.std.proofs.Common.{◌≡◌, ℕ, zero, suc, ◌+◌, ◌*◌, ◌<◌, List, [], ◌∷◌, ◌++◌, length, take, drop, map, replicate, refl, ap, sym, subst, ◌∙◌, arith, append_assoc, append-nil, length-append, inl, inr}
use Rattle.std.specs.List.{concat}
use Rattle.std.proofs.Math.Seq.{take-append_seam, drop-append_seam}
use Rattle.std.proofs.lemmas.List.{map-append, replicate-append-replicate}
use Rattle.std.proofs.lemmas.List.Folds.{concat-append}
use Rattle.std.proofs.lemmas.Bool.{cases_order}
use Rattle.dr_history.specs.Lookback.{below}
use Rattle.dr_history_law.proofs.Listing.{map_below}
use Rattle.dr_stream_reader.specs.Images.{with_page}

-- the bytes of the pages below a number
abbrev pub joined : (ℕ → List ℕ) → ℕ → List ℕ
joined f n = concat (map f (below n))

pub joined_more : (f : ℕ → List ℕ) (n : ℕ) → joined f (suc n) ≡ joined f n ++ f n
joined_more f n =
    ap concat (map-append f (below n) (n ∷ [])) ∙ concat-append (map f (below n)) (f n ∷ []) ∙ ap (λ xs. joined f n ++ xs) (append-nil (f n))

pub length-joined : (f : ℕ → List ℕ) (n : ℕ) → ((k : ℕ) → length (f k) ≡ 4096) → length (joined f n) ≡ n * 4096
length-joined f zero whole = refl
length-joined f (suc n) whole =
    let more : length (joined f (suc n)) ≡ length (joined f n) + length (f n) = ap length (joined_more f n) ∙ length-append (joined f n) (f n) in
    let old : length (joined f n) ≡ n * 4096 = length-joined f n whole in
    let last : length (f n) ≡ 4096 = whole n in
    omega (arith, more, old, last)

-- all pages but one are the same
pub record Differs (f g : ℕ → List ℕ) (q n : ℕ) : Type 0 where
  pub tail : List ℕ
  pub old : joined f n ≡ joined f q ++ f q ++ tail
  pub new : joined g n ≡ joined f q ++ g q ++ tail

first_differs : (f g : ℕ → List ℕ) (q : ℕ) → ((k : ℕ) → (k ≡ q → ⊥) → g k ≡ f k) → Differs f g q (suc q)
first_differs f g q same = record {
  tail = [];
  old = joined_more f q ∙ sym (append-nil (joined f q ++ f q));
  new = joined_more g q ∙ ap (λ xs. xs ++ g q) (ap concat (map_below g f q (λ k l. same k (λ e. omega (arith, e))))) ∙ sym (append-nil (joined f q ++ g q));
}

differs_on : (f g : ℕ → List ℕ) (q n : ℕ) → ((k : ℕ) → (k ≡ q → ⊥) → g k ≡ f k) → q < n → Differs f g q n → Differs f g q (suc n)
differs_on f g q n same lt d = record {
  tail = d.tail ++ f n;
  old = joined_more f n ∙ ap (λ xs. xs ++ f n) d.old ∙ append_assoc (joined f q ++ f q) d.tail (f n);
  new = joined_more g n ∙ ap (λ xs. xs ++ g n) d.new ∙ ap (λ xs. joined f q ++ g q ++ d.tail ++ xs) (same n (λ e. omega (arith, e, lt))) ∙ append_assoc (joined f q ++ g q) d.tail (f n);
}

pub differs : (f g : ℕ → List ℕ) (q n : ℕ) → ((k : ℕ) → (k ≡ q → ⊥) → g k ≡ f k) → q < n → Differs f g q n
differs f g q zero same lt = absurd (omega (arith, lt))
differs f g q (suc n) same lt =
    elim (cases_order q n) [
      | inl e ↦ subst (λ m. Differs f g q (suc m)) e (first_differs f g q same)
      | inr (inl l) ↦ differs_on f g q n same l (differs f g q n same l)
      | inr (inr m) ↦ absurd (omega (arith, m, lt))
    ]

seam_take : (n : ℕ) (a b : List ℕ) → length a ≡ n → take n (a ++ b) ≡ a
seam_take n a b is = ap (λ m. take m (a ++ b)) (sym is) ∙ take-append_seam a b

seam_drop : (n : ℕ) (a b : List ℕ) → length a ≡ n → drop n (a ++ b) ≡ b
seam_drop n a b is = ap (λ m. drop m (a ++ b)) (sym is) ∙ drop-append_seam a b

-- so the one is written over the other
pub page_written : (f g : ℕ → List ℕ) (q n : ℕ) → ((k : ℕ) → length (f k) ≡ 4096) → ((k : ℕ) → (k ≡ q → ⊥) → g k ≡ f k) → q < n → joined g n ≡ with_page q (g q) (joined f n)
page_written f g q n whole same lt =
    let d = differs f g q n same lt in
    let front : length (joined f q) ≡ q * 4096 = length-joined f q whole in
    let page : length (f q) ≡ 4096 = whole q in
    let both : length (joined f q ++ f q) ≡ q * 4096 + 4096 = omega (arith, length-append (joined f q) (f q), front, page) in
    let before : take (q * 4096) (joined f n) ≡ joined f q =
    ap (take (q * 4096)) (d.old ∙ append_assoc (joined f q) (f q) d.tail) ∙ seam_take (q * 4096) (joined f q) (f q ++ d.tail) front in
    let after : drop (q * 4096 + 4096) (joined f n) ≡ d.tail =
    ap (drop (q * 4096 + 4096)) d.old ∙ seam_drop (q * 4096 + 4096) (joined f q ++ f q) d.tail both in
    d.new ∙ ap (λ xs. xs ++ g q ++ d.tail) (sym before) ∙ ap (λ xs. take (q * 4096) (joined f n) ++ g q ++ xs) (sym after)

-- zeros
pub joined_zeros : (n : ℕ) → joined (λ k. replicate 4096 0) n ≡ replicate (n * 4096) 0
joined_zeros zero = refl
joined_zeros (suc n) =
    joined_more (λ k. replicate 4096 0) n ∙ ap (λ xs. xs ++ replicate 4096 0) (joined_zeros n) ∙ replicate-append-replicate (n * 4096) 4096 0 ∙ ap (λ m. replicate m 0) (omega arith)
