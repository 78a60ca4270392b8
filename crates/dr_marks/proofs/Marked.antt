use Rattle.std.proofs.Common.{◌≡◌, ℕ, zero, suc, ◌<◌, Bool, true, false, List, [], ◌∷◌, ◌++◌, length, get_or, replicate, refl, ap, sym, ◌∙◌, arith, inl, inr, subst}
use Rattle.std.specs.Prelude.{◌==◌, ◌||◌, nat_lt as ltb}
use Rattle.std.specs.List.{list_any}
use Rattle.std.proofs.Math.ListN.{set, length-set, length-replicate}
use Rattle.std.proofs.lemmas.List.{get_or-replicate, get_or-set_same, get_or-set_other, set-get_or}
use Rattle.std.proofs.lemmas.List.Folds.{list_any-append}
use Rattle.std.proofs.lemmas.Bool.{eq-eqb, lt-ltb}
use Rattle.std.proofs.lemmas.Bool.Decides.{eqb_tells}
use Rattle.dr_marks.specs.Marked.{IsList, AllUnder, among, is_set}

pub no_list : (n : ℕ) → IsList (replicate n false) []
no_list n = record { each = λ k lt. sym (get_or-replicate n k false false (omega (arith, lt, length-replicate n false))); within = tt }

under_length : (n m : ℕ) (xs : List ℕ) → n ≡ m → AllUnder n xs → AllUnder m xs
under_length n m xs e h = subst (λ (k : ℕ). AllUnder k xs) e h

under_push : (n k : ℕ) (xs : List ℕ) → k < n → AllUnder n xs → AllUnder n (xs ++ k ∷ [])
under_push n k [] lt h = (lt, tt)
under_push n k (x ∷ xs) lt h = (h.0, under_push n k xs lt h.1)

or_false : (a b : Bool) → b ≡ false → (a || (b || false)) ≡ a
or_false true b h = refl
or_false false b h = ap (λ x. x || false) h

or_true : (a b : Bool) → b ≡ true → (a || (b || false)) ≡ true
or_true true b h = refl
or_true false b h = ap (λ x. x || false) h

pub listed : (flags : List Bool) (xs : List ℕ) (at : ℕ) → at < length flags → IsList flags xs → IsList (set flags at true) (xs ++ at ∷ [])
listed flags xs at lt h = record {
  each = λ n l.
      let within : n < length flags = omega (arith, l, length-set flags at true) in
      list_any-append (λ x. x == n) xs (at ∷ [])
      ∙ elim (eqb_tells at n) [
        | inl s ↦ or_true (among n xs) (at == n) s.0 ∙ sym (ap (λ k. get_or (set flags at true) k false) (sym s.1) ∙ get_or-set_same flags at true false lt)
        | inr d ↦ or_false (among n xs) (at == n) d.0 ∙ h.each n within ∙ sym (get_or-set_other flags at n true false (λ e. d.1 (sym e)))
      ];
  within = under_length (length flags) (length (set flags at true)) (xs ++ at ∷ []) (sym (length-set flags at true)) (under_push (length flags) at xs lt h.within);
}

pub set_again : (flags : List Bool) (at : ℕ) → get_or flags at false ≡ true → flags ≡ set flags at true
set_again flags at h = sym (ap (λ b. set flags at b) (sym h) ∙ set-get_or flags at false)

all_false : (flags : List Bool) → ((n : ℕ) → n < length flags → false ≡ get_or flags n false) → list_any is_set flags ≡ false
all_false [] h = refl
all_false (b ∷ bs) h = ap (λ x. x || list_any is_set bs) (sym (h 0 (omega arith))) ∙ all_false bs (λ n lt. h (suc n) (omega arith))

pub none_listed : (flags : List Bool) (xs : List ℕ) → xs ≡ [] → IsList flags xs → false ≡ list_any is_set flags
none_listed flags xs e h = sym (all_false flags (λ n lt. ap (among n) (sym e) ∙ h.each n lt))

some_true : (flags : List Bool) (n : ℕ) → n < length flags → get_or flags n false ≡ true → list_any is_set flags ≡ true
some_true [] n lt h = absurd (omega arith)
some_true (b ∷ bs) zero lt h = ap (λ x. x || list_any is_set bs) h
some_true (true ∷ bs) (suc n) lt h = refl
some_true (false ∷ bs) (suc n) lt h = some_true bs n (omega arith) h

pub some_listed : (flags : List Bool) (xs : List ℕ) → (xs ≡ [] → ⊥) → IsList flags xs → true ≡ list_any is_set flags
some_listed flags [] ne h = absurd (ne refl)
some_listed flags (x ∷ xs) ne h =
    sym (some_true flags x h.within.0 (sym (h.each x h.within.0) ∙ ap (λ b. b || among x xs) (eq-eqb x x refl)))

pub any_listed : (flags : List Bool) (xs : List ℕ) (n : ℕ) → n ≡ length xs → IsList flags xs → ltb 0 n ≡ list_any is_set flags
any_listed flags [] n e h = ap (ltb 0) e ∙ none_listed flags [] refl h
any_listed flags (x ∷ xs) n e h = lt-ltb 0 n (omega (arith, e)) ∙ some_listed flags (x ∷ xs) (λ q. cc) h
