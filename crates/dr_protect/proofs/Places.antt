-- A page at a place is one of the slots' pages.
use Rattle.std.proofs.Common.{◌≡◌, ℕ, ◌+◌, ◌<◌, ◌≤◌, Bool, true, false, cond, List, [], ◌∷◌, Option, Some, None, refl, ap, sym, subst, arith}
use Rattle.std.specs.Prelude.{◌==◌, nat_lt, IfSome}
use Rattle.std.proofs.lemmas.Bool.{le-ltb, ltb-true}
use Rattle.dr_types.specs.declared.guest.SlotRow.{SlotRow}
use Rattle.dr_types.specs.Pages.{slot_field, pages_of_slots}
use Rattle.dr_slots.specs.Places.{page_at_from, page_at_place}
use Rattle.std.specs.Int.{bit_at}
use Rattle.dr_protect.specs.Masks.{named_page}

-- there is none at an offset that no slot is long enough for
far_from : (first : ℕ) (rows : List SlotRow) (slot offset : ℕ) → pages_of_slots rows ≤ offset → page_at_from first rows slot offset ≡ None
far_from first [] slot offset le = refl
far_from first (row ∷ rows) slot offset le =
    by_test (slot_field row == slot) (nat_lt offset row.pages) (le-ltb offset row.pages (omega arith)) (far_from (first + row.pages) rows slot offset (omega arith))
  where
    by_test : (here short : Bool) → short ≡ false → page_at_from (first + row.pages) rows slot offset ≡ None → cond here (cond short (Some (first + offset)) None) (page_at_from (first + row.pages) rows slot offset) ≡ None
    by_test true short is later = ap (λ b. cond b (Some (first + offset)) None) is
    by_test false short is later = later

pub far_place : (rows : List SlotRow) (slot offset : ℕ) → pages_of_slots rows ≤ offset → page_at_place rows slot offset ≡ None
far_place rows slot offset le = far_from 0 rows slot offset le

within_from : (first : ℕ) (rows : List SlotRow) (slot offset : ℕ) → IfSome (page_at_from first rows slot offset) (λ page. page < first + pages_of_slots rows)
within_from first [] slot offset = tt
within_from first (row ∷ rows) slot offset =
    by_test (slot_field row == slot) (nat_lt offset row.pages) (λ lt. ltb-true offset row.pages lt) (page_at_from (first + row.pages) rows slot offset) (within_from (first + row.pages) rows slot offset)
  where
    by_test : (here short : Bool) → (short ≡ true → offset < row.pages) → (o : Option ℕ) → IfSome o (λ page. page < first + row.pages + pages_of_slots rows)
        → IfSome (cond here (cond short (Some (first + offset)) None) o) (λ page. page < first + (row.pages + pages_of_slots rows))
    by_test true true lt o later = let h : offset < row.pages = lt refl in omega arith
    by_test true false lt o later = tt
    by_test false short lt None later = tt
    by_test false short lt (Some page) later = let h : page < first + row.pages + pages_of_slots rows = later in omega arith

pub place_within : (rows : List SlotRow) (slot offset pages : ℕ) (o : Option ℕ) → o ≡ page_at_place rows slot offset → pages_of_slots rows ≡ pages → IfSome o (λ page. page < pages)
place_within rows slot offset pages o is size = among_pages o (subst (λ (p : Option ℕ). IfSome p (λ page. page < 0 + pages_of_slots rows)) (sym is) (within_from 0 rows slot offset))
  where
    among_pages : (p : Option ℕ) → IfSome p (λ page. page < 0 + pages_of_slots rows) → IfSome p (λ page. page < pages)
    among_pages None h = tt
    among_pages (Some page) h = let lt : page < 0 + pages_of_slots rows = h in omega arith

pub names_none : (rows : List SlotRow) (slot base mask i : ℕ) → pages_of_slots rows ≤ base + i → None ≡ named_page rows slot base mask i
names_none rows slot base mask i le = by_test (bit_at mask i == 1)
  where
    by_test : (b : Bool) → None ≡ cond b (page_at_place rows slot (base + i)) None
    by_test true = sym (far_place rows slot (base + i) le)
    by_test false = refl
