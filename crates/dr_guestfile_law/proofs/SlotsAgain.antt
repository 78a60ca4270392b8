-- Slots that were written are read again.
use Rattle.std.proofs.Common.{◌≡◌, ℕ, ◌+◌, ◌*◌, ◌-◌, ◌^◌, ◌≤◌, ◌<◌, Bool, true, false, List, [], ◌∷◌, ◌++◌, length, map, None, Ok, refl, sym, ap, subst, ◌∙◌, arith, length-append, append_assoc}
use Rattle.std.specs.Prelude.{find, nat_le, nat_lt, ◌==◌, All, codes}
use Rattle.std.specs.List.{list_any}
use Rattle.std.proofs.Math.Nat.{mul-le-mul_right}
use Rattle.std.proofs.lemmas.Bool.{le-leb, lt-ltb, eqb-true, and_parts}
use Rattle.std.proofs.lemmas.List.{append-nil}
use Rattle.std.proofs.lemmas.List.Elements.{All-head, All-tail}
use Rattle.dr_types.specs.declared.guest.SlotRow.{SlotRow}
use Rattle.dr_types.specs.Pages.{slot_field, pages_of_slots}
use Rattle.dr_types.specs.Validity.{meet, DifferFrom, FieldsDiffer, ApartFrom, AreApart, AreSlots}
use Rattle.dr_guestfile_lines.specs.Reading.{next_begins}
use Rattle.dr_guestfile.specs.SlotLines.{is_same_slot, slot_of, admitted, slots_from}
use Rattle.dr_types.specs.GuestText.{slot_line}
use Rattle.dr_guestfile_law.proofs.Again.{input, number_again, spaced_number_again}
use Rattle.dr_guestfile_law.proofs.Lexing.{numbered}
use Rattle.dr_guestfile.proofs.SlotSteps.{no_more_at, some_are}

slot_again : (version : ℕ) (row : SlotRow) (line : ℕ) → 1 ≤ version → version ≤ 2 → row.space < version → row.id ≤ 65535 → 1 ≤ row.pages → row.pages ≤ 16384 → row.base + row.pages ≤ 2 ^ 52
    → slot_of version (record { number = line; words = slot_line row }) ≡ Ok row
unfolding slot_of
slot_again version row line least most space id some few ends =
    let test : nat_le (row.base + row.pages) (2 ^ 52) ≡ true = le-leb _ _ ends in
    rw (
      spaced_number_again version 65535 row.space row.id line least most space id (omega (arith, id)),
      number_again 0 (2 ^ 64 - 1) row.base line (omega arith) (omega (arith, ends)) (omega (arith, ends)),
      number_again 1 (2 ^ 32 - 1) row.pages line some (omega (arith, few)) (omega (arith, few)),
      test,
    ) refl

admitted_again : (rounds : ℕ) (earlier : List SlotRow) (row : SlotRow) (line : ℕ) → length earlier < 32 → list_any (λ slot. is_same_slot slot row) earlier ≡ false
    → find (λ slot. meet slot row) earlier ≡ None → pages_of_slots earlier + row.pages ≤ 16384 → (pages_of_slots earlier + row.pages) * (rounds + 1) ≤ 262144
    → admitted rounds earlier row line ≡ Ok tt
unfolding admitted
admitted_again rounds earlier row line few once apart pages copies =
    let a : nat_lt (length earlier) 32 ≡ true = lt-ltb _ _ few in
    let b : nat_le (pages_of_slots earlier + row.pages) 16384 ≡ true = le-leb _ _ pages in
    let d : nat_le ((pages_of_slots earlier + row.pages) * (rounds + 1)) 262144 ≡ true = le-leb _ _ copies in
    rw (a, once, apart, b, d) refl

-- what holds of each slot holds of this one
at_row : (P : SlotRow → Type 0) (earlier : List SlotRow) (row : SlotRow) (rows : List SlotRow) → All P (earlier ++ row ∷ rows) → P row
at_row P [] row rows all = All-head P row rows all
at_row P (first ∷ earlier) row rows all = at_row P earlier row rows (All-tail P first (earlier ++ row ∷ rows) all)

other_at : (field : ℕ) (earlier : List SlotRow) (row : SlotRow) (rows : List SlotRow) → DifferFrom field (earlier ++ row ∷ rows) → slot_field row ≡ field → ⊥
other_at field [] row rows differ = differ.0
other_at field (first ∷ earlier) row rows differ = other_at field earlier row rows differ.1

same_case : (b : Bool) → (b ≡ true → ⊥) → b ≡ false
same_case true never = absurd (never refl)
same_case false never = refl

-- slots of other fields haven't the same space and id
other_test : (a b : SlotRow) → (slot_field b ≡ slot_field a → ⊥) → is_same_slot a b ≡ false
other_test a b differs =
    same_case (is_same_slot a b) (λ same.
    let parts = and_parts (a.space == b.space) (a.id == b.id) same in
    let spaces : a.space ≡ b.space = eqb-true a.space b.space parts.0 in
    let ids : a.id ≡ b.id = eqb-true a.id b.id parts.1 in
    differs (omega (arith, spaces, ids)))

once_at : (earlier : List SlotRow) (row : SlotRow) (rows : List SlotRow) → FieldsDiffer (earlier ++ row ∷ rows) → list_any (λ slot. is_same_slot slot row) earlier ≡ false
once_at [] row rows differ = refl
once_at (first ∷ earlier) row rows differ =
    let here : is_same_slot first row ≡ false = other_test first row (other_at (slot_field first) earlier row rows differ.0) in
    rw here (once_at earlier row rows differ.1)

apart_test : (first : SlotRow) (earlier : List SlotRow) (row : SlotRow) (rows : List SlotRow) → ApartFrom first (earlier ++ row ∷ rows) → meet first row ≡ false
apart_test first [] row rows apart = apart.0
apart_test first (next ∷ earlier) row rows apart = apart_test first earlier row rows apart.1

apart_at : (earlier : List SlotRow) (row : SlotRow) (rows : List SlotRow) → AreApart (earlier ++ row ∷ rows) → find (λ slot. meet slot row) earlier ≡ None
apart_at [] row rows apart = refl
apart_at (first ∷ earlier) row rows apart =
    let here : meet first row ≡ false = apart_test first earlier row rows apart.0 in
    rw here (apart_at earlier row rows apart.1)

pages_at : (earlier : List SlotRow) (row : SlotRow) (rows : List SlotRow) → pages_of_slots earlier + row.pages ≤ pages_of_slots (earlier ++ row ∷ rows)
pages_at [] row rows = omega arith
pages_at (first ∷ earlier) row rows = omega (arith, pages_at earlier row rows)

module _ (version rounds : ℕ) (whole : List SlotRow) (least : 1 ≤ version) (most : version ≤ 2) (spaces : All (λ row. row.space < version) whole) (are : AreSlots whole) (copies : pages_of_slots whole * (rounds + 1) ≤ 262144) where
  row_again : (earlier : List SlotRow) (row : SlotRow) (rows : List SlotRow) (line : ℕ) → earlier ++ row ∷ rows ≡ whole → slot_of version (record { number = line; words = slot_line row }) ≡ Ok row
  row_again earlier row rows line e =
      let pages : row.pages ≤ 16384 = omega (arith, pages_at earlier row rows, ap pages_of_slots e, are.pages) in
      slot_again version row line least most (at_row (λ row. row.space < version) earlier row rows (subst (All (λ row. row.space < version)) (sym e) spaces)) (at_row (λ row. row.id ≤ 65535) earlier row rows (subst (All (λ row. row.id ≤ 65535)) (sym e) are.ids)) (at_row (λ row. 1 ≤ row.pages) earlier row rows (subst (All (λ row. 1 ≤ row.pages)) (sym e) are.some_pages)) pages
      (at_row (λ row. row.base + row.pages ≤ 2 ^ 52) earlier row rows (subst (All (λ row. row.base + row.pages ≤ 2 ^ 52)) (sym e) are.ends))

  may_follow : (earlier : List SlotRow) (row : SlotRow) (rows : List SlotRow) (line : ℕ) → earlier ++ row ∷ rows ≡ whole → admitted rounds earlier row line ≡ Ok tt
  may_follow earlier row rows line e =
      let fewer : pages_of_slots earlier + row.pages ≤ pages_of_slots whole = omega (arith, pages_at earlier row rows, ap pages_of_slots e) in
      admitted_again rounds earlier row line (omega (arith, are.few, ap length e, length-append earlier (row ∷ rows))) (once_at earlier row rows (subst FieldsDiffer (sym e) are.differ))
      (apart_at earlier row rows (subst AreApart (sym e) are.apart)) (omega (arith, fewer, are.pages)) (omega (arith, mul-le-mul_right (rounds + 1) fewer, copies))

  last_again : (earlier : List SlotRow) (line : ℕ) (more : List (List (List ℕ))) (past : ℕ) → next_begins (codes "slot") (numbered line more) ≡ false → earlier ≡ whole
      → slots_from version rounds earlier (numbered line more) past ≡ Ok (whole, input (numbered line more) past)
  last_again earlier line more past none e =
      let some : earlier ≡ [] → ⊥ = λ empty. absurd (omega (arith, are.some, ap length (sym e ∙ empty))) in
      no_more_at version rounds earlier (numbered line more) past none ∙ some_are earlier (input (numbered line more) past) some ∙ ap (λ (rows : List SlotRow). Ok (rows, input (numbered line more) past)) e

  -- slot lines that follow earlier ones
  pub slots_again : (earlier rows : List SlotRow) (line : ℕ) (more : List (List (List ℕ))) (past : ℕ) → ((n : ℕ) → next_begins (codes "slot") (numbered n more) ≡ false) → earlier ++ rows ≡ whole
      → slots_from version rounds earlier (numbered line (map slot_line rows ++ more)) past ≡ Ok (whole, input (numbered (line + length rows) more) past)
  unfolding slots_from
  slots_again earlier [] line more past none e =
      last_again earlier line more past (none line) (sym (append-nil earlier) ∙ e) ∙ ap (λ (n : ℕ). Ok (whole, input (numbered n more) past)) (omega arith)
  slots_again earlier (row ∷ rows) line more past none e =
      let rest = slots_again (earlier ++ row ∷ []) rows (line + 1) more past none (append_assoc earlier (row ∷ []) rows ∙ e) in
      rw (row_again earlier row rows line e, may_follow earlier row rows line e) (rest ∙ ap (λ (n : ℕ). Ok (whole, input (numbered n more) past)) (omega arith))
