-- The slots of a guest while their lines are read.
use Rattle.std.proofs.Common.{◌≡◌, ℕ, ◌+◌, ◌*◌, ◌≤◌, ◌<◌, ◌^◌, Bool, true, false, cond, List, [], ◌∷◌, ◌++◌, length, Some, None, refl, sym, subst, ◌∙◌, arith, length-append}
use Rattle.std.specs.Prelude.{find, ◌==◌, ◌||◌, All, IfSome, Option}
use Rattle.std.specs.List.{list_any}
use Rattle.std.proofs.lemmas.Bool.Decides.{nat_tests}
use Rattle.std.proofs.lemmas.List.Elements.{All-append, All-from_recursion, All-head, All-tail}
use Rattle.dr_types.specs.declared.guest.SlotRow.{SlotRow}
use Rattle.dr_types.specs.Pages.{slot_field, pages_of_slots}
use Rattle.dr_guestfile.specs.SlotLines.{AreInBounds, is_same_slot}
use Rattle.dr_types.specs.Validity.{meet, DifferFrom, FieldsDiffer, ApartFrom, AreApart}

-- slots that more may follow
pub record AreSoFar (version rounds : ℕ) (rows : List SlotRow) : Type 0 where
  pub few : length rows ≤ 32
  pub spaces : All (λ row. row.space < version) rows
  pub two_spaces : All (λ row. row.space ≤ 1) rows
  pub ids : All (λ row. row.id ≤ 65535) rows
  pub some_pages : All (λ row. 1 ≤ row.pages) rows
  pub ends : All (λ row. row.base + row.pages ≤ 2 ^ 52) rows
  pub differ : FieldsDiffer rows
  pub apart : AreApart rows
  pub pages : pages_of_slots rows ≤ 16384
  pub copies : pages_of_slots rows * (rounds + 1) ≤ 262144

-- a slot that may follow these
pub record MayFollow (version rounds : ℕ) (rows : List SlotRow) (row : SlotRow) : Type 0 where
  pub space : row.space < version
  pub two_spaces : row.space ≤ 1
  pub id : row.id ≤ 65535
  pub some_pages : 1 ≤ row.pages
  pub ends : row.base + row.pages ≤ 2 ^ 52
  pub few : length rows < 32
  pub once : list_any (λ slot. is_same_slot slot row) rows ≡ false
  pub apart : find (λ slot. meet slot row) rows ≡ None
  pub pages : pages_of_slots rows + row.pages ≤ 16384
  pub copies : (pages_of_slots rows + row.pages) * (rounds + 1) ≤ 262144

neither : (a b : Bool) → (a || b) ≡ false → (a ≡ false) × (b ≡ false)
neither true b e = absurd cc
neither false b e = (refl, e)

-- slots of other spaces or ids have other fields
other : (a b : SlotRow) → a.id ≤ 65535 → b.id ≤ 65535 → is_same_slot a b ≡ false → slot_field a ≡ slot_field b → ⊥
other a b first second e same =
    let sum : a.space * 65536 + a.id ≡ b.space * 65536 + b.id = same in
    let spaces : a.space ≡ b.space = omega (arith, first, second, sum) in
    let ids : a.id ≡ b.id = omega (arith, first, second, sum) in
    let one : (a.space == b.space) ≡ true = grind (arith, nat_tests, spaces) in
    let two : (a.id == b.id) ≡ true = grind (arith, nat_tests, ids) in
    let both : is_same_slot a b ≡ true = rw (one, two) refl in
    absurd (let wrong : true ≡ false = sym both ∙ e in cc)

differ_more : (field : ℕ) (rows : List SlotRow) (row : SlotRow) → DifferFrom field rows → (slot_field row ≡ field → ⊥) → DifferFrom field (rows ++ row ∷ [])
differ_more field [] row differ last = (last, tt)
differ_more field (next ∷ rows) row differ last = (differ.0, differ_more field rows row differ.1 last)

fields_more : (rows : List SlotRow) (row : SlotRow) → All (λ row. row.id ≤ 65535) rows → row.id ≤ 65535 → FieldsDiffer rows → list_any (λ slot. is_same_slot slot row) rows ≡ false → FieldsDiffer (rows ++ row ∷ [])
fields_more [] row ids id differ once = (tt, tt)
fields_more (next ∷ rows) row ids id differ once =
    let n = neither (is_same_slot next row) (list_any (λ slot. is_same_slot slot row) rows) once in
    let first = All-head (λ (r : SlotRow). r.id ≤ 65535) next rows ids in
    let later = All-tail (λ (r : SlotRow). r.id ≤ 65535) next rows ids in
    (differ_more (slot_field next) rows row differ.0 (λ same. other next row first id n.0 (sym same)), fields_more rows row later id differ.1 n.1)

apart_more : (first : SlotRow) (rows : List SlotRow) (row : SlotRow) → ApartFrom first rows → meet first row ≡ false → ApartFrom first (rows ++ row ∷ [])
apart_more first [] row apart last = (last, tt)
apart_more first (next ∷ rows) row apart last = (apart.0, apart_more first rows row apart.1 last)

not_found : (next row : SlotRow) (rows : List SlotRow) (b : Bool) → meet next row ≡ b → find (λ slot. meet slot row) (next ∷ rows) ≡ None → (meet next row ≡ false) × (find (λ slot. meet slot row) rows ≡ None)
not_found next row rows true is none = absurd (let found : Some next ≡ None = sym (rw is refl) ∙ none in cc)
not_found next row rows false is none = (is, sym (rw is refl) ∙ none)

all_apart_more : (rows : List SlotRow) (row : SlotRow) → AreApart rows → find (λ slot. meet slot row) rows ≡ None → AreApart (rows ++ row ∷ [])
all_apart_more [] row apart none = (tt, tt)
all_apart_more (next ∷ rows) row apart none =
    let n = not_found next row rows (meet next row) refl none in
    (apart_more next rows row apart.0 n.0, all_apart_more rows row apart.1 n.1)

pages_more : (rows : List SlotRow) (row : SlotRow) → pages_of_slots (rows ++ row ∷ []) ≡ pages_of_slots rows + row.pages
pages_more [] row = omega arith
pages_more (first ∷ rows) row = omega (arith, pages_more rows row)

one_more : (P : SlotRow → Type 0) (rows : List SlotRow) (row : SlotRow) → All P rows → P row → All P (rows ++ row ∷ [])
one_more P rows row all is = All-append P rows (row ∷ []) all (All-from_recursion P (row ∷ []) (is, tt))

pub goes_on_so_far : (version rounds : ℕ) (rows : List SlotRow) (row : SlotRow) → AreSoFar version rounds rows → MayFollow version rounds rows row → AreSoFar version rounds (rows ++ row ∷ [])
goes_on_so_far version rounds rows row are may = record {
  spaces = one_more (λ row. row.space < version) rows row are.spaces may.space;
  two_spaces = one_more (λ row. row.space ≤ 1) rows row are.two_spaces may.two_spaces;
  few = omega (arith, length-append rows (row ∷ []), may.few);
  ids = one_more (λ row. row.id ≤ 65535) rows row are.ids may.id;
  some_pages = one_more (λ row. 1 ≤ row.pages) rows row are.some_pages may.some_pages;
  ends = one_more (λ row. row.base + row.pages ≤ 2 ^ 52) rows row are.ends may.ends;
  differ = fields_more rows row are.ids may.id are.differ may.once;
  apart = all_apart_more rows row are.apart may.apart;
  pages = rw (pages_more rows row) may.pages;
  copies = rw (pages_more rows row) may.copies;
}

pub admits_more : (rows : List SlotRow) (row : SlotRow) → AreInBounds rows → slot_field row < 2 ^ 32 → row.base + row.pages ≤ 2 ^ 52 → pages_of_slots rows + row.pages ≤ 16384 → AreInBounds (rows ++ row ∷ [])
admits_more rows row slots field end pages = record {
  fields = one_more (λ row. slot_field row < 2 ^ 32) rows row slots.fields field;
  ends = one_more (λ row. row.base + row.pages ≤ 2 ^ 52) rows row slots.ends end;
  pages = rw (pages_more rows row) pages;
}

found_case : (here : Bool) (row : SlotRow) (rest : Option SlotRow) → slot_field row < 2 ^ 32 → IfSome rest (λ slot. slot_field slot < 2 ^ 32) → IfSome (cond here (Some row) rest) (λ slot. slot_field slot < 2 ^ 32)
found_case true row rest one more = one
found_case false row rest one more = more

found_in : (test : SlotRow → Bool) (rows : List SlotRow) → All (λ row. slot_field row < 2 ^ 32) rows → IfSome (find test rows) (λ slot. slot_field slot < 2 ^ 32)
found_in test [] fields = tt
found_in test (row ∷ rows) fields =
    found_case (test row) row (find test rows) (All-head (λ (r : SlotRow). slot_field r < 2 ^ 32) row rows fields)
    (found_in test rows (All-tail (λ (r : SlotRow). slot_field r < 2 ^ 32) row rows fields))

-- the field of a slot that is found among these fits
pub found_fits : (test : SlotRow → Bool) (rows : List SlotRow) (found : Option SlotRow) → AreInBounds rows → found ≡ find test rows → IfSome found (λ slot. slot_field slot < 2 ^ 32)
found_fits test rows found slots is = subst (λ (o : Option SlotRow). IfSome o (λ slot. slot_field slot < 2 ^ 32)) (sym is) (found_in test rows slots.fields)
