-- A page's place, and the page at a place.
use Rattle.std.proofs.Common.{◌≡◌, ℕ, ◌+◌, ◌-◌, ◌<◌, ◌≤◌, true, false, cond, List, [], ◌∷◌, Option, Some, None, refl, sym, ap, subst, ◌∙◌, arith, inl, inr}
use Rattle.std.specs.Prelude.{nat_lt, ◌==◌}
use Rattle.std.proofs.lemmas.Bool.{cases_lt, cases_eq, lt-ltb, le-ltb}
use Rattle.std.proofs.lemmas.Bool.Decides.{nat_tests}
use Rattle.dr_types.specs.declared.entry.Entry.{Entry}
use Rattle.dr_types.specs.declared.guest.SlotRow.{SlotRow}
use Rattle.dr_types.specs.Validity.{DifferFrom, FieldsDiffer}
use Rattle.dr_types.specs.Pages.{slot_field}
use Rattle.dr_slots.specs.Places.{place_of, page_at_from}

same_id : (n : ℕ) → (n == n) ≡ true
same_id n = grind (arith, nat_tests)

other_id : (m n : ℕ) → (m ≡ n → ⊥) → (m == n) ≡ false
other_id m n differs = grind (arith, nat_tests)

abbrev found : Entry → Option Entry
found entry = Some entry

here_is : (row : SlotRow) (page : ℕ) (entry : Entry) → found (record { slot = slot_field row; offset = page }) ≡ Some entry → slot_field row ≡ entry.slot
here_is row page entry e = let same : record { slot = slot_field row; offset = page } ≡ entry = cc in ap (λ (x : Entry). x.slot) same

in_first : (first : ℕ) (row : SlotRow) (rows : List SlotRow) (page : ℕ) (entry : Entry) → page < row.pages → found (record { slot = slot_field row; offset = page }) ≡ Some entry
    → page_at_from first (row ∷ rows) entry.slot entry.offset ≡ Some (first + page)
in_first first row rows page entry lt e =
    let here : Entry = record { slot = slot_field row; offset = page } in
    let same : here ≡ entry = cc in
    let one : page_at_from first (row ∷ rows) (slot_field row) page ≡ Some (first + page) = rw (same_id (slot_field row), lt-ltb page row.pages lt) refl in
    subst (λ (x : Entry). page_at_from first (row ∷ rows) x.slot x.offset ≡ Some (first + page)) same one

-- a place in these rows is not in a slot of another id
place_differs : (id : ℕ) (rows : List SlotRow) (page : ℕ) (entry : Entry) → DifferFrom id rows → place_of rows page ≡ Some entry → entry.slot ≡ id → ⊥
place_differs id [] page entry differ e same = absurd cc
place_differs id (row ∷ rows) page entry differ e same =
    elim (cases_lt page row.pages) [
      | inl lt ↦ differ.0 (here_is row page entry (rw (lt-ltb _ _ lt) at e) ∙ same)
      | inr ge ↦ place_differs id rows (page - row.pages) entry differ.1 (rw (le-ltb _ _ ge) at e) same
    ]

pub page_of_place : (first : ℕ) (rows : List SlotRow) (page : ℕ) (entry : Entry) → FieldsDiffer rows → place_of rows page ≡ Some entry → page_at_from first rows entry.slot entry.offset ≡ Some (first + page)
page_of_place first [] page entry differ e = absurd cc
page_of_place first (row ∷ rows) page entry differ e =
    elim (cases_lt page row.pages) [
      | inl lt ↦ in_first first row rows page entry lt (rw (lt-ltb _ _ lt) at e)
      | inr ge ↦
          let later = rw (le-ltb _ _ ge) at e in
          let other : (slot_field row == entry.slot) ≡ false = other_id (slot_field row) entry.slot (λ same. place_differs (slot_field row) rows (page - row.pages) entry differ.0 later (sym same)) in
          rw other (page_of_place (first + row.pages) rows (page - row.pages) entry differ.1 later ∙ ap Some (omega arith))
    ]

abbrev some_number : ℕ → Option ℕ
some_number n = Some n

some_is : (a b : ℕ) → some_number a ≡ Some b → a ≡ b
some_is a b e = cc

no_page : {n : ℕ} → None ≡ some_number n → ⊥
no_page e = cc

abbrev pub at_place : ℕ → ℕ → Entry
at_place slot offset = record { slot = slot; offset = offset }

place_in_first : (row : SlotRow) (rows : List SlotRow) (slot offset : ℕ) → slot_field row ≡ slot → offset < row.pages → place_of (row ∷ rows) offset ≡ Some (at_place slot offset)
place_in_first row rows slot offset same lt = rw (lt-ltb offset row.pages lt) (ap (λ (id : ℕ). Some (at_place id offset)) same)

same_test : (m n : ℕ) → m ≡ n → (m == n) ≡ true
same_test m n same = grind (arith, nat_tests)

found_here : (first : ℕ) (row : SlotRow) (rows : List SlotRow) (slot offset page : ℕ) → slot_field row ≡ slot → cond (nat_lt offset row.pages) (some_number (first + offset)) None ≡ Some page
    → (first ≤ page) × (place_of (row ∷ rows) (page - first) ≡ Some (at_place slot offset))
found_here first row rows slot offset page same e =
    elim (cases_lt offset row.pages) [
      | inl lt ↦
          let is : first + offset ≡ page = some_is (first + offset) page (rw (lt-ltb _ _ lt) at e) in
          let k : page - first ≡ offset = omega arith in
          (omega arith, rw k (place_in_first row rows slot offset same lt))
      | inr ge ↦ absurd (no_page (rw (le-ltb _ _ ge) at e))
    ]

-- the page that stands at a place has that place
pub place_of_page : (first : ℕ) (rows : List SlotRow) (slot offset page : ℕ) → page_at_from first rows slot offset ≡ Some page → (first ≤ page) × (place_of rows (page - first) ≡ Some (at_place slot offset))
place_of_page first [] slot offset page e = absurd cc
place_of_page first (row ∷ rows) slot offset page e =
    elim (cases_eq (slot_field row) slot) [
      | inl same ↦ found_here first row rows slot offset page same (rw (same_test (slot_field row) slot same) at e)
      | inr differs ↦
          let h = place_of_page (first + row.pages) rows slot offset page (rw (other_id (slot_field row) slot differs) at e) in
          let past : nat_lt (page - first) row.pages ≡ false = le-ltb _ _ (omega (arith, h.0)) in
          (omega (arith, h.0), rw past (ap (place_of rows) (omega arith) ∙ h.1))
    ]
