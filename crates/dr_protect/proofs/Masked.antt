-- The pages that a mask names are protected one by one.
use Rattle.std.proofs.Common.{◌≡◌, ℕ, zero, suc, ◌+◌, ◌<◌, Bool, true, false, List, [], ◌∷◌, ◌++◌, length, get_or, not, Option, Some, None, refl, ap, sym, ◌∙◌, arith, add-one, inl, inr}
use Rattle.std.proofs.Math.ListN.{set, length-set}
use Rattle.std.specs.Prelude.{◌==◌, ◌||◌, ◌&&◌}
use Rattle.std.specs.List.{filter_map, cons_option, range_with_len, list_any}
use Rattle.std.proofs.lemmas.List.Elements.{filter_map-append}
use Rattle.std.proofs.lemmas.List.{append-nil, get_or-set_same, get_or-set_other}
use Rattle.std.proofs.lemmas.Bool.Decides.{eqb_tells}
use Rattle.dr_protect.specs.Permissions.{Permissions}
use Rattle.dr_protect.specs.Calls.{cleared, protected, all_protected}

-- one more is cleared
pub cleared_more : (at : ℕ) (list : List ℕ) (flags : List Bool) → cleared (list ++ at ∷ []) flags ≡ set (cleared list flags) at false
cleared_more at [] flags = refl
cleared_more at (x ∷ xs) flags = cleared_more at xs (set flags x false)

pub length_cleared : (list : List ℕ) (flags : List Bool) → length (cleared list flags) ≡ length flags
length_cleared [] flags = refl
length_cleared (at ∷ later) flags = length_cleared later (set flags at false) ∙ length-set flags at false

-- one number more
range_more : (a n j : ℕ) → a + n ≡ j → range_with_len a (suc n) ≡ range_with_len a n ++ j ∷ []
range_more a zero j e = ap (λ k. k ∷ []) (omega arith)
range_more a (suc n) j e = ap (λ ks. a ∷ ks) (range_more (a + 1) n j (omega arith))

named_more : (f : ℕ → Option ℕ) (i : ℕ) → filter_map f (range_with_len 0 (i + 1)) ≡ filter_map f (range_with_len 0 i) ++ filter_map f (i ∷ [])
named_more f i =
    ap (λ k. filter_map f (range_with_len 0 k)) (add-one i) ∙ ap (filter_map f) (range_more 0 i i (omega arith)) ∙ filter_map-append f (range_with_len 0 i) (i ∷ [])

-- a bit names a page
pub mask_names : (f : ℕ → Option ℕ) (i page : ℕ) (before now new : Permissions) → now ≡ all_protected (filter_map f (range_with_len 0 i)) before → Some page ≡ f i
    → new ≡ protected page now → new ≡ all_protected (filter_map f (range_with_len 0 (i + 1))) before
mask_names f i page before now new is names put =
    put ∙ ap (protected page) is
    ∙ ap (λ (flags : List Bool). record before { writable = flags }) (sym (cleared_more page (filter_map f (range_with_len 0 i)) before.writable))
    ∙ ap (λ (pages : List ℕ). all_protected pages before)
    (ap (λ (o : Option ℕ). filter_map f (range_with_len 0 i) ++ cons_option o []) names ∙ sym (named_more f i))

-- a bit names none
pub mask_passes : (f : ℕ → Option ℕ) (i : ℕ) (before now : Permissions) → now ≡ all_protected (filter_map f (range_with_len 0 i)) before → None ≡ f i
    → now ≡ all_protected (filter_map f (range_with_len 0 (i + 1))) before
mask_passes f i before now is none =
    is
    ∙ ap (λ (pages : List ℕ). all_protected pages before)
    (sym (append-nil (filter_map f (range_with_len 0 i))) ∙ ap (λ (o : Option ℕ). filter_map f (range_with_len 0 i) ++ cons_option o []) none ∙ sym (named_more f i))

and_false : (a : Bool) → (a && false) ≡ false
and_false true = refl
and_false false = refl

-- a flag stays set unless its number is among those that are cleared
pub get_cleared : (list : List ℕ) (flags : List Bool) (q : ℕ) → q < length flags → get_or (cleared list flags) q false ≡ (not (list_any (λ x. x == q) list) && get_or flags q false)
get_cleared [] flags q lt = refl
get_cleared (at ∷ later) flags q lt =
    get_cleared later (set flags at false) q (omega (arith, lt, length-set flags at false))
    ∙ elim (eqb_tells at q) [
      | inl s ↦
          ap (λ b. not (list_any (λ x. x == q) later) && b) (ap (λ k. get_or (set flags at false) k false) (sym s.1) ∙ get_or-set_same flags at false false (omega (arith, lt, s.1)))
          ∙ and_false (not (list_any (λ x. x == q) later)) ∙ sym (ap (λ b. not (b || list_any (λ x. x == q) later) && get_or flags q false) s.0)
      | inr d ↦
          ap (λ b. not (list_any (λ x. x == q) later) && b) (get_or-set_other flags at q false false (λ e. d.1 (sym e)))
          ∙ sym (ap (λ b. not (b || list_any (λ x. x == q) later) && get_or flags q false) d.0)
    ]
