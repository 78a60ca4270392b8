-- The list of all pages, slot by slot.
use Rattle.std.proofs.Common.{◌≡◌, ℕ, zero, suc, ◌-◌, ◌<◌, ◌≤◌, true, false, List, [], ◌∷◌, ◌++◌, length, Option, Some, refl, sym, ap, ◌∙◌, arith, inl, inr}
use Rattle.std.specs.Prelude.{slice_get, nat_lt}
use Rattle.std.proofs.lemmas.Bool.{cases_lt, lt-ltb, le-ltb}
use Rattle.std.proofs.lemmas.Option.{slice_get_past, slice_get-get_or}
use Rattle.std.proofs.lemmas.List.Concat.{flat_map-cons}
use Rattle.std.proofs.lemmas.List.FromFn.{length-map-range_with_len, get_or-map-range_with_len}
use Rattle.dr_types.specs.declared.entry.Entry.{Entry}
use Rattle.dr_types.specs.declared.guest.SlotRow.{SlotRow}
use Rattle.dr_types.specs.Pages.{slot_field}
use Rattle.dr_slots.specs.Places.{pages_of, all_pages, place_of}

front : (xs ys : List Entry) (k : ℕ) → k < length xs → slice_get (xs ++ ys) k ≡ slice_get xs k
front [] ys k lt = absurd (omega arith)
front (x ∷ xs) ys zero lt = refl
front (x ∷ xs) ys (suc k) lt = front xs ys k (omega arith)

back : (xs ys : List Entry) (k : ℕ) → length xs ≤ k → slice_get (xs ++ ys) k ≡ slice_get ys (k - length xs)
back [] ys k le = ap (slice_get ys) (omega arith)
back (x ∷ xs) ys zero le = absurd (omega arith)
back (x ∷ xs) ys (suc k) le = back xs ys k (omega arith) ∙ ap (slice_get ys) (omega arith)

abbrev at : SlotRow → ℕ → Entry
at row offset = record { slot = slot_field row; offset = offset }

abbrev some : Entry → Option Entry
some entry = Some entry

count : (row : SlotRow) → length (pages_of row) ≡ row.pages
count row = length-map-range_with_len (at row) 0 row.pages

here : (row : SlotRow) (page : ℕ) → page < row.pages → slice_get (pages_of row) page ≡ Some (at row page)
here row page lt =
    slice_get-get_or (pages_of row) page (at row page) (omega (arith, count row)) ∙ ap some (get_or-map-range_with_len (at row) 0 row.pages page page (at row page) lt (omega arith))

first : (row : SlotRow) (rows : List SlotRow) (page : ℕ) → page < row.pages → slice_get (all_pages (row ∷ rows)) page ≡ place_of (row ∷ rows) page
first row rows page lt =
    ap (λ (entries : List Entry). slice_get entries page) (flat_map-cons pages_of row rows)
    ∙ front (pages_of row) (all_pages rows) page (omega (arith, count row)) ∙ here row page lt ∙ sym (let test : nat_lt page row.pages ≡ true = lt-ltb _ _ lt in rw test refl)

later : (row : SlotRow) (rows : List SlotRow) (page : ℕ) → row.pages ≤ page → slice_get (all_pages rows) (page - row.pages) ≡ place_of rows (page - row.pages)
    → slice_get (all_pages (row ∷ rows)) page ≡ place_of (row ∷ rows) page
later row rows page le rest =
    ap (λ (entries : List Entry). slice_get entries page) (flat_map-cons pages_of row rows)
    ∙ back (pages_of row) (all_pages rows) page (omega (arith, count row)) ∙ ap (λ (n : ℕ). slice_get (all_pages rows) (page - n)) (count row)
    ∙ rest ∙ sym (let test : nat_lt page row.pages ≡ false = le-ltb _ _ le in rw test refl)

-- a page stands there at its number
pub at_place : (rows : List SlotRow) (page : ℕ) → slice_get (all_pages rows) page ≡ place_of rows page
at_place [] page = slice_get_past [] page (omega arith)
at_place (row ∷ rows) page =
    elim (cases_lt page row.pages) [
      | inl lt ↦ first row rows page lt
      | inr le ↦ later row rows page le (at_place rows (page - row.pages))
    ]
