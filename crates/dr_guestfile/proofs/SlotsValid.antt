-- Slots that were read are slots of a guest.
use Rattle.std.proofs.Common.{◌≡◌, ℕ, ◌+◌, ◌*◌, ◌-◌, ◌^◌, ◌<◌, ◌≤◌, Bool, true, false, not, Option, Some, None, Ok, refl, List, [], ◌∷◌, ◌++◌, length, subst, arith}
use Rattle.std.specs.Prelude.{nat_le, nat_lt, codes, find, All}
use Rattle.std.specs.List.{list_any}
use Rattle.std.specs.Option.{ok_or}
use Rattle.std.proofs.lemmas.Bool.{leb-true, ltb-true}
use Rattle.std.proofs.lemmas.List.Elements.{All-nil}
use Rattle.dr_types.specs.declared.fault.FileFault.TheVariants as fault
use Rattle.dr_types.specs.declared.fault.What.TheVariants as what
use Rattle.dr_types.specs.declared.guest.SlotRow.{SlotRow}
use Rattle.dr_types.specs.Pages.{pages_of_slots}
use Rattle.dr_types.specs.Validity.{meet, AreSlots}
use Rattle.dr_guestfile_lines.specs.declared.lines.Line.{Line}
use Rattle.dr_guestfile_lines.specs.Input.{Input}
use Rattle.dr_guestfile_lines.specs.Reading.{check, number_of, spaced_number_of, next_begins}
use Rattle.dr_guestfile.specs.SlotLines.{is_same_slot, slot_of, apart_from, admitted, some_slots, slots_from}
use Rattle.dr_guestfile_lines.specs.Words.{three_words, words_after}
use Rattle.dr_guestfile.proofs.ReadingParts.{steps, passed, number_range, spaced_range}
use Rattle.dr_guestfile.proofs.SlotParts.{AreSoFar, MayFollow, goes_on_so_far}

-- what holds of a slot line's numbers
pub record IsRow (version : ℕ) (row : SlotRow) : Type 0 where
  pub space : row.space < version
  pub two_spaces : row.space ≤ 1
  pub id : row.id ≤ 65535
  pub some_pages : 1 ≤ row.pages
  pub ends : row.base + row.pages ≤ 2 ^ 52

row_valid : (version : ℕ) (line : Line) (row : SlotRow) → 1 ≤ version → slot_of version line ≡ Ok row → IsRow version row
unfolding slot_of
row_valid version line row some e =
    let words = steps (ok_or (three_words (words_after line.words)) (fault.Line line.number)) _ _ e in
    let id = steps (spaced_number_of version 65535 words.value.0 line.number) _ _ words.next in
    let base = steps (number_of 0 (2 ^ 64 - 1) words.value.1 line.number) _ _ id.next in
    let pages = steps (number_of 1 (2 ^ 32 - 1) words.value.2 line.number) _ _ base.next in
    let ends = steps (check (nat_le (base.value + pages.value) (2 ^ 52)) (fault.Number line.number)) _ _ pages.next in
    let made : SlotRow = record { space = id.value.0; id = id.value.1; base = base.value; pages = pages.value } in
    let same : made ≡ row = cc ends.next in
    let of_id = spaced_range version 65535 words.value.0 line.number id.value id.is in
    let of_pages = number_range 1 (2 ^ 32 - 1) words.value.2 line.number pages.value pages.is in
    subst (IsRow version) same (record { space = of_id.space some; two_spaces = of_id.two_spaces; id = of_id.most; some_pages = of_pages.0; ends = leb-true _ _ (passed _ _ _ ends.is) })

not_false : (b : Bool) → not b ≡ true → b ≡ false
not_false true e = absurd cc
not_false false e = refl

none_found : (found : Option SlotRow) (row : SlotRow) (u : Unit {0}) → apart_from found row ≡ Ok u → found ≡ None
none_found None row u e = refl
none_found (Some slot) row u e = absurd cc

follows : (version rounds : ℕ) (rows : List SlotRow) (row : SlotRow) (line : ℕ) (u : Unit {0}) → IsRow version row → admitted rounds rows row line ≡ Ok u → MayFollow version rounds rows row
unfolding admitted
follows version rounds rows row line u is e =
    let few = steps (check (nat_lt (length rows) 32) (fault.TooLarge what.Slots line)) _ _ e in
    let once = steps (check (not (list_any (λ slot. is_same_slot slot row) rows)) (fault.SlotTwice line)) _ _ few.next in
    let apart = steps (apart_from (find (λ slot. meet slot row) rows) row) _ _ once.next in
    let small = steps (check (nat_le (pages_of_slots rows + row.pages) 16384) (fault.TooLarge what.Pages line)) _ _ apart.next in
    record {
      space = is.space;
      two_spaces = is.two_spaces;
      id = is.id;
      some_pages = is.some_pages;
      ends = is.ends;
      few = ltb-true _ _ (passed _ _ _ few.is);
      once = not_false _ (passed _ _ _ once.is);
      apart = none_found _ row apart.value apart.is;
      pages = leb-true _ _ (passed _ _ _ small.is);
      copies = leb-true _ _ (passed _ _ u small.next);
    }

-- the slots of a guest of this version with so many rounds
pub record AreRead (version rounds : ℕ) (rows : List SlotRow) : Type 0 where
  pub spaces : All (λ row. row.space < version) rows
  pub slots : AreSlots rows
  pub copies : pages_of_slots rows * (rounds + 1) ≤ 262144

abbrev gave : List SlotRow → Input → List SlotRow × Input
gave rows input = (rows, input)

whole : (version rounds : ℕ) (rows all : List SlotRow) (input rest : Input) → AreSoFar version rounds rows → some_slots rows input ≡ Ok (all, rest) → AreRead version rounds all
whole version rounds [] all input rest are e = absurd cc
whole version rounds (row ∷ rows) all input rest are e =
    let same : gave (row ∷ rows) input ≡ gave all rest = cc in
    subst (λ (x : List SlotRow × Input). AreRead version rounds x.0) same (record {
      spaces = are.spaces;
      slots = record {
        some = omega arith;
        few = are.few;
        spaces = are.two_spaces;
        ids = are.ids;
        some_pages = are.some_pages;
        ends = are.ends;
        differ = are.differ;
        apart = are.apart;
        pages = are.pages;
      };
      copies = are.copies;
    })

one_line : (version rounds : ℕ) (rows : List SlotRow) (line : Line) (lines : List Line) (past : ℕ) (all : List SlotRow) (rest : Input) (b : Bool) → 1 ≤ version → next_begins (codes "slot") (line ∷ lines) ≡ b → AreSoFar version rounds rows
    → ((more : List SlotRow) → AreSoFar version rounds more → slots_from version rounds more lines past ≡ Ok (all, rest) → AreRead version rounds all)
    → slots_from version rounds rows (line ∷ lines) past ≡ Ok (all, rest) → AreRead version rounds all
unfolding slots_from
one_line version rounds rows line lines past all rest true some is are later e =
    let here = rw is at e in
    let row = steps (slot_of version line) _ _ here in
    let done = steps (admitted rounds rows row.value line.number) _ _ row.next in
    later (rows ++ row.value ∷ []) (goes_on_so_far version rounds rows row.value are (follows version rounds rows row.value line.number done.value (row_valid version line row.value some row.is) done.is)) done.next
one_line version rounds rows line lines past all rest false some is are later e = whole version rounds rows all _ rest are (rw is at e)

pub slots_valid : (version rounds : ℕ) (rows : List SlotRow) (lines : List Line) (past : ℕ) (all : List SlotRow) (rest : Input) → 1 ≤ version → AreSoFar version rounds rows → slots_from version rounds rows lines past ≡ Ok (all, rest) → AreRead version rounds all
unfolding slots_from
slots_valid version rounds rows [] past all rest some are e = whole version rounds rows all _ rest are e
slots_valid version rounds rows (line ∷ lines) past all rest some are e =
    one_line version rounds rows line lines past all rest (next_begins (codes "slot") (line ∷ lines)) some refl are (λ more so_far later. slots_valid version rounds more lines past all rest some so_far later) e

pub none_so_far : (version rounds : ℕ) → AreSoFar version rounds []
none_so_far version rounds = record {
  spaces = All-nil (λ row. row.space < version);
  two_spaces = All-nil (λ row. row.space ≤ 1);
  few = omega arith;
  ids = All-nil (λ row. row.id ≤ 65535);
  some_pages = All-nil (λ row. 1 ≤ row.pages);
  ends = All-nil (λ row. row.base + row.pages ≤ 2 ^ 52);
  differ = tt;
  apart = tt;
  pages = omega arith;
  copies = omega arith;
}
