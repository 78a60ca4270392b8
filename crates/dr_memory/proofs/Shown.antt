-- What a store shows when one of its pages changes.
use Rattle.std.proofs.Common.{◌≡◌, ℕ, zero, suc, ◌+◌, ◌<◌, Bool, true, false, List, [], ◌∷◌, ◌++◌, length, get_or, map, replicate, refl, ap, sym, ◌∙◌, arith, true≢false}
use Rattle.std.specs.Prelude.{◌==◌, Option, Some, None, is_some}
use Rattle.std.proofs.Math.ListN.{set, length-set}
use Rattle.std.proofs.Math.Seq.{map-set_same}
use Rattle.std.proofs.lemmas.List.{map-set, get_or-map, get_or-set_same, length-map}
use Rattle.std.specs.List.{list_all}
use Rattle.dr_history.specs.Memory.{filled, is_zero}
use Rattle.dr_memory.specs.Stores.{Store, held_bytes, shown, has_room, bytes_of, with_bytes, with_room}

abbrev store : List (List ℕ) → List Bool → Store
store pages rooms = record { pages = pages; rooms = rooms }

both : (a b : List (List ℕ)) (r s : List Bool) → a ≡ b → r ≡ s → store a r ≡ store b s
both a b r s p q = ap (λ x. store x r) p ∙ ap (λ y. store b y) q

-- a page that has memory of its own has other bytes
pub rewritten : (pages : List (Option (List ℕ))) (page : ℕ) (old new : List ℕ) (d : Option (List ℕ)) (s : Store) →
    shown pages ≡ s → get_or pages page d ≡ Some old → shown (set pages page (Some new)) ≡ with_bytes page new s
rewritten pages page old new d s view is =
    both _ _ _ _ (map-set held_bytes pages page (Some new))
    (map-set_same is_some pages page (Some new) d (ap is_some (sym is)))
    ∙ ap (with_bytes page new) view

within : (pages : List (Option (List ℕ))) (page : ℕ) (s : Store) → shown pages ≡ s → page < length s.pages → page < length pages
within pages page s view lt =
    let len : length (map held_bytes pages) ≡ length s.pages = ap (λ (it : Store). length it.pages) view in
    omega (arith, lt, len, length-map pages held_bytes)

-- what the flag of a page says of its memory
pub flagged : (pages : List (Option (List ℕ))) (page : ℕ) (d : Option (List ℕ)) (s : Store) →
    shown pages ≡ s → page < length s.pages → has_room page s ≡ is_some (get_or pages page d)
flagged pages page d s view lt =
    ap (has_room page) (sym view) ∙ get_or-map is_some pages page d false (within pages page s view lt)

-- a page that was given memory of its own has room
pub given : (pages : List (Option (List ℕ))) (page : ℕ) (new : List ℕ) (s : Store) →
    shown pages ≡ s → page < length s.pages → has_room page (shown (set pages page (Some new))) ≡ true
given pages page new s view lt =
    let lt : page < length pages = within pages page s view lt in
    let len : length (set pages page (Some new)) ≡ length pages = length-set pages page (Some new) in
    get_or-map is_some (set pages page (Some new)) page None false (omega (arith, lt, len))
    ∙ ap is_some (get_or-set_same pages page (Some new) None lt)

-- the bytes of a page that has memory of its own
pub owned : (pages : List (Option (List ℕ))) (page : ℕ) (old : List ℕ) (d : Option (List ℕ)) (s : Store) →
    shown pages ≡ s → page < length s.pages → get_or pages page d ≡ Some old → old ≡ bytes_of page s
owned pages page old d s view lt is =
    sym (ap held_bytes is) ∙ sym (get_or-map held_bytes pages page d [] (within pages page s view lt)) ∙ ap (bytes_of page) view

-- a page without memory of its own has no room
pub roomless : (pages : List (Option (List ℕ))) (page : ℕ) (d : Option (List ℕ)) (s : Store) →
    shown pages ≡ s → page < length s.pages → has_room page s ≡ true → get_or pages page d ≡ None → ⊥
roomless pages page d s view lt room is = true≢false (sym room ∙ flagged pages page d s view lt ∙ ap is_some is)

all_zero : (n : ℕ) → list_all (λ byte. byte == 0) (replicate n 0) ≡ true
all_zero zero = refl
all_zero (suc n) = all_zero n

zeros_are_zero : is_zero (filled 0) ≡ true
unfolding is_zero filled
zeros_are_zero = all_zero 4096

-- a page without memory of its own is zero
pub bare_zero : (pages : List (Option (List ℕ))) (page : ℕ) (d : Option (List ℕ)) (s : Store) →
    shown pages ≡ s → page < length s.pages → get_or pages page d ≡ None → true ≡ is_zero (bytes_of page s)
bare_zero pages page d s view lt is =
    let bytes : bytes_of page s ≡ filled 0 =
    sym (ap (bytes_of page) view) ∙ get_or-map held_bytes pages page d [] (within pages page s view lt) ∙ ap held_bytes is in
    sym (ap is_zero bytes ∙ zeros_are_zero)

none_of : (own : Option (List ℕ)) → is_some own ≡ false → own ≡ None
none_of None h = refl
none_of (Some bytes) h = absurd (true≢false h)

-- a page gets memory of its own
pub roomy : (pages : List (Option (List ℕ))) (page : ℕ) (new : List ℕ) (d : Option (List ℕ)) (s : Store) →
    shown pages ≡ s → page < length s.pages → has_room page s ≡ false → new ≡ filled 0 → shown (set pages page (Some new)) ≡ with_room page s
roomy pages page new d s view lt room zero_page =
    let is : get_or pages page d ≡ None = none_of _ (sym (flagged pages page d s view lt) ∙ room) in
    both _ _ _ _ (map-set_same held_bytes pages page (Some new) d (zero_page ∙ ap held_bytes (sym is)))
    (map-set is_some pages page (Some new))
    ∙ ap (with_room page) view

abbrev bare : Option (List ℕ)
bare = None

-- one page more without memory
pub none_more : (n : ℕ) → replicate (n + 1) bare ≡ replicate n bare ++ bare ∷ []
none_more zero = refl
none_more (suc n) =
    let e : suc n + 1 ≡ suc (n + 1) = omega arith in
    ap (λ k. replicate k bare) e ∙ ap (λ xs. bare ∷ xs) (none_more n)

zeros : (n : ℕ) → map held_bytes (replicate n bare) ≡ replicate n (filled 0)
zeros zero = refl
zeros (suc n) = ap (λ xs. filled 0 ∷ xs) (zeros n)

unset : (n : ℕ) → map is_some (replicate n bare) ≡ replicate n false
unset zero = refl
unset (suc n) = ap (λ xs. false ∷ xs) (unset n)

-- pages without memory
pub none_shown : (n : ℕ) → shown (replicate n bare) ≡ record { pages = replicate n (filled 0); rooms = replicate n false }
none_shown n = both _ _ _ _ (zeros n) (unset n)
