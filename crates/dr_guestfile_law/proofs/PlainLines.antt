-- The lines of a guest are lines of words that can be written.
use Rattle.std.proofs.Common.{◌≡◌, ℕ, cond, ◌+◌, ◌^◌, ◌≤◌, ◌<◌, Bool, true, false, not, ◌&&◌, List, [], ◌∷◌, ◌++◌, length, map, refl, sym, subst, ◌∙◌, arith, length-take, inl, inr}
use Rattle.std.specs.Prelude.{nat_lt, nat_le, slice_index, ◌==◌, All, codes, decimal}
use Rattle.std.specs.Int.{w64, to_le_bytes}
use Rattle.std.specs.List.{flat_map, list_all}
use Rattle.std.proofs.lemmas.Bool.{cases_lt, ltb-true}
use Rattle.std.proofs.lemmas.Bool.Decides.{nat_tests}
use Rattle.std.proofs.lemmas.Fmt.{decimal_is_IsNumeral}
use Rattle.std.proofs.lemmas.List.Concat.{flat_map-cons}
use Rattle.std.proofs.lemmas.List.Elements.{All-head, All-tail}
use Rattle.std.proofs.lemmas.List.Sums.{list_all-from_AllPass}
use Rattle.hex.specs.Hex.{IsBytes, is_hex_digit, encode_lower}
use Rattle.hex.proofs.HexLemmas.{decode_of-encode_lower, decode_of-ok}
use Rattle.dr_types.specs.declared.guest.Settings.{Settings}
use Rattle.dr_types.specs.declared.guest.SlotRow.{SlotRow}
use Rattle.dr_types.specs.declared.guest.Op.{Op}
use Rattle.dr_types.specs.declared.guest.Op.TheVariants.{W, F, R, A, S, Nap, Halt}
use Rattle.dr_types.specs.declared.guest.Item.{Item}
use Rattle.dr_types.specs.declared.guest.Item.TheVariants.{One, Rep}
use Rattle.dr_types.specs.declared.guest.Guest.{Guest}
use Rattle.dr_types.specs.Validity.{AreSettings, IsOp, AreOps, IsItem, AreItems, IsScript, AreScripts, IsValid}
use Rattle.dr_types.specs.GuestText.{settings_lines, slot_line, op_line, item_lines, script_lines, guest_lines}
use Rattle.dr_types.specs.Lines.{named, low_bytes}
use Rattle.dr_types.specs.Spaces.{spaced_word}
use Rattle.dr_guestfile_law.proofs.Lexing.{AllAbove, AreWords, AreLines, AreNoComments, decimal_above}
use Rattle.dr_guestfile_law.proofs.OpsAgain.{one_byte, bytes_fit}

both : (a b : Bool) → (a && b) ≡ true → (a ≡ true) × (b ≡ true)
both true b e = (refl, e)
both false b e = absurd cc

pub record ArePlain (lines : List (List (List ℕ))) : Type 0 where
  pub words : AreLines lines
  pub starts : AreNoComments lines

none : ArePlain []
none = record { words = tt; starts = tt }

append : (lines more : List (List (List ℕ))) → ArePlain lines → ArePlain more → ArePlain (lines ++ more)
append [] more a b = b
append ([] ∷ lines) more a b = absurd a.starts
append ((word ∷ words) ∷ lines) more a b =
    let rest = append lines more (record { words = a.words.1; starts = a.starts.1 }) b in
    record { words = (a.words.0, rest.words); starts = (a.starts.0, rest.starts) }

above_from_test : (bs : List ℕ) → list_all (λ b. nat_lt 32 b) bs ≡ true → AllAbove bs
above_from_test [] test = tt
above_from_test (b ∷ bs) test =
    let h = both (nat_lt 32 b) (list_all (λ b. nat_lt 32 b) bs) test in
    (ltb-true 32 b h.0, above_from_test bs h.1)

-- a word that a line may begin with
abbrev is_name : List ℕ → Bool
is_name word = nat_lt 0 (length word) && list_all (λ b. nat_lt 32 b) word && not (slice_index word 0 == 35)

not_true : (b : Bool) → not b ≡ true → b ≡ false
not_true true e = absurd cc
not_true false e = refl

line : (name : List ℕ) (arguments : List (List ℕ)) → is_name name ≡ true → AreWords arguments → ArePlain ((name ∷ arguments) ∷ [])
line name arguments is are =
    let h = both (nat_lt 0 (length name) && list_all (λ b. nat_lt 32 b) name) (not (slice_index name 0 == 35)) is in
    let g = both (nat_lt 0 (length name)) (list_all (λ b. nat_lt 32 b) name) h.0 in
    record { words = ((ltb-true 0 (length name) g.0, above_from_test name g.1, are), tt); starts = (not_true (slice_index name 0 == 35) h.1, tt) }

number : (n : ℕ) (words : List (List ℕ)) → n < 2 ^ 64 → AreWords words → AreWords (decimal n ∷ words)
number n words fits are = let numeral = decimal_is_IsNumeral n fits in (numeral.0.0, decimal_above (decimal n) numeral.0.1, are)

-- the word of a number with its space
spaced_case : (plain : Bool) (n : ℕ) (words : List (List ℕ)) → n < 2 ^ 64 → AreWords words → AreWords ((cond plain [] (codes "1:") ++ decimal n) ∷ words)
spaced_case true n words fits are = number n words fits are
spaced_case false n words fits are =
    let numeral = decimal_is_IsNumeral n fits in
    (omega arith, (omega arith, (omega arith, decimal_above (decimal n) numeral.0.1)), are)

spaced_one : (space n : ℕ) (words : List (List ℕ)) → n < 2 ^ 64 → AreWords words → AreWords (spaced_word space n ∷ words)
spaced_one space n words fits are = spaced_case (space == 0) n words fits are

named_line : (name : List ℕ) (n : ℕ) → is_name name ≡ true → n < 2 ^ 64 → ArePlain (named name n ∷ [])
named_line name n is fits = line name (decimal n ∷ []) is (number n [] fits tt)

digit_test : (c : ℕ) → c ≤ 32 → is_hex_digit c ≡ false
digit_test c le =
    let a : nat_le 65 c ≡ false = grind (arith, nat_tests) in
    let b : nat_le 97 c ≡ false = grind (arith, nat_tests) in
    let d : nat_le 48 c ≡ false = grind (arith, nat_tests) in
    rw (a, b, d) refl

digit_above : (c : ℕ) → is_hex_digit c ≡ true → 32 < c
digit_above c is = elim (cases_lt 32 c) [ inl lt ↦ lt | inr le ↦ absurd (let e : true ≡ false = sym is ∙ digit_test c le in cc) ]

digits_above : (cs : List ℕ) → list_all is_hex_digit cs ≡ true → AllAbove cs
digits_above [] are = tt
digits_above (c ∷ cs) are = let h = both (is_hex_digit c) (list_all is_hex_digit cs) are in (digit_above c h.0, digits_above cs h.1)

hex : (bytes : List ℕ) → 1 ≤ length bytes → IsBytes bytes → AreWords (encode_lower bytes ∷ [])
hex bytes some fits =
    let digits = decode_of-ok (encode_lower bytes) bytes (decode_of-encode_lower bytes fits) in
    (omega (arith, some, digits.2), digits_above (encode_lower bytes) (list_all-from_AllPass is_hex_digit (encode_lower bytes) digits.1), tt)

settings_plain : (s : Settings) → AreSettings s → ArePlain (settings_lines s)
settings_plain s are =
    append (named (codes "ring") s.ring ∷ []) _ (named_line (codes "ring") s.ring refl (omega (arith, are.ring_most)))
    (append (named (codes "reserve") s.reserve ∷ []) _ (named_line (codes "reserve") s.reserve refl (omega (arith, are.reserve)))
    (append (named (codes "buffer") s.buffer ∷ []) _ (named_line (codes "buffer") s.buffer refl (omega (arith, are.buffer)))
    (append (named (codes "pace") s.pace ∷ []) _ (named_line (codes "pace") s.pace refl (omega (arith, are.pace)))
    (append (named (codes "threshold") s.threshold ∷ []) _ (named_line (codes "threshold") s.threshold refl (omega (arith, are.threshold)))
    (append (named (codes "rounds") s.rounds ∷ []) _ (named_line (codes "rounds") s.rounds refl (omega (arith, are.rounds)))
    (named_line (codes "quota") s.quota refl (omega (arith, are.quota))))))))

slot_plain : (row : SlotRow) → row.id ≤ 65535 → row.base + row.pages ≤ 2 ^ 52 → ArePlain (slot_line row ∷ [])
slot_plain row id ends =
    line (codes "slot") (spaced_word row.space row.id ∷ decimal row.base ∷ decimal row.pages ∷ []) refl
    (spaced_one row.space row.id (decimal row.base ∷ decimal row.pages ∷ []) (omega (arith, id)) (number row.base (decimal row.pages ∷ []) (omega (arith, ends)) (number row.pages [] (omega (arith, ends)) tt)))

slots_plain : (rows : List SlotRow) → All (λ row. row.id ≤ 65535) rows → All (λ row. row.base + row.pages ≤ 2 ^ 52) rows → ArePlain (map slot_line rows)
slots_plain [] ids ends = none
slots_plain (row ∷ rows) ids ends =
    append (slot_line row ∷ []) (map slot_line rows) (slot_plain row (All-head (λ row. row.id ≤ 65535) row rows ids) (All-head (λ row. row.base + row.pages ≤ 2 ^ 52) row rows ends))
    (slots_plain rows (All-tail (λ row. row.id ≤ 65535) row rows ids) (All-tail (λ row. row.base + row.pages ≤ 2 ^ 52) row rows ends))

op_plain : (slots : List SlotRow) (op : Op) → IsOp slots op → ArePlain (op_line op ∷ [])
op_plain slots (W space address len value) is =
    line (codes "w") (spaced_word space address ∷ encode_lower (low_bytes len value) ∷ []) refl
    (spaced_one space address (encode_lower (low_bytes len value) ∷ []) is.0 (hex (low_bytes len value) (omega (arith, is.1, is.2, length-take len (to_le_bytes w64 value))) (bytes_fit len value)))
op_plain slots (F space frame byte) is = line (codes "f") (spaced_word space frame ∷ encode_lower (byte ∷ []) ∷ []) refl (spaced_one space frame (encode_lower (byte ∷ []) ∷ []) is.0 (hex (byte ∷ []) (omega arith) (one_byte byte is.1)))
op_plain slots (R space address) is = line (codes "r") (spaced_word space address ∷ []) refl (spaced_one space address [] is.0 tt)
op_plain slots (A n) is = named_line (codes "a") n refl is
op_plain slots (S space address) is = line (codes "s") (spaced_word space address ∷ []) refl (spaced_one space address [] is.0 tt)
op_plain slots (Nap us) is = named_line (codes "nap") us refl (omega (arith, is))
op_plain slots Halt is = absurd is

ops_plain : (slots : List SlotRow) (ops : List Op) → AreOps slots ops → ArePlain (map op_line ops)
ops_plain slots [] are = none
ops_plain slots (op ∷ ops) are = append (op_line op ∷ []) (map op_line ops) (op_plain slots op are.0) (ops_plain slots ops are.1)

item_plain : (slots : List SlotRow) (item : Item) → IsItem slots item → ArePlain (item_lines item)
item_plain slots (One op) is = op_plain slots op is
item_plain slots (Rep times body) is =
    append (named (codes "rep") times ∷ []) (map op_line body ++ (codes "end" ∷ []) ∷ []) (named_line (codes "rep") times refl (omega (arith, is.1)))
    (append (map op_line body) ((codes "end" ∷ []) ∷ []) (ops_plain slots body is.3) (line (codes "end") [] refl tt))

-- what an item's lines are, item by item
each_item : (items : List Item) (last : List Item) (slots : List SlotRow) → AreItems slots items → ArePlain (flat_map item_lines last) → ArePlain (flat_map item_lines (items ++ last))
each_item [] last slots are after = after
each_item (item ∷ items) last slots are after =
    subst ArePlain (sym (flat_map-cons item_lines item (items ++ last))) (append (item_lines item) (flat_map item_lines (items ++ last)) (item_plain slots item are.0) (each_item items last slots are.1 after))

script_plain : (slots : List SlotRow) (script : List Item) → IsScript slots script → ArePlain (script_lines script)
script_plain slots script is =
    let halt : ArePlain (flat_map item_lines (One Halt ∷ [])) = subst ArePlain (sym (flat_map-cons item_lines (One Halt) [])) (line (codes "halt") [] refl tt) in
    append ((codes "vcpu" ∷ []) ∷ []) (flat_map item_lines script) (line (codes "vcpu") [] refl tt)
    (subst (λ (s : List Item). ArePlain (flat_map item_lines s)) (sym is.ends) (each_item is.items (One Halt ∷ []) slots is.valid halt))

scripts_plain : (slots : List SlotRow) (scripts : List (List Item)) → AreScripts slots scripts → ArePlain (flat_map script_lines scripts)
scripts_plain slots [] are = none
scripts_plain slots (script ∷ scripts) are =
    subst ArePlain (sym (flat_map-cons script_lines script scripts)) (append (script_lines script) (flat_map script_lines scripts) (script_plain slots script are.0) (scripts_plain slots scripts are.1))

pub guest_plain : (guest : Guest) → IsValid guest → ArePlain (guest_lines guest)
guest_plain guest is =
    append (named (codes "dirtyguest") guest.version ∷ []) (settings_lines guest.settings ++ (map slot_line guest.slots ++ flat_map script_lines guest.scripts))
    (named_line (codes "dirtyguest") guest.version refl (omega (arith, is.version)))
    (append (settings_lines guest.settings) (map slot_line guest.slots ++ flat_map script_lines guest.scripts) (settings_plain guest.settings is.settings)
    (append (map slot_line guest.slots) (flat_map script_lines guest.scripts) (slots_plain guest.slots is.slots.ids is.slots.ends) (scripts_plain guest.slots guest.scripts is.scripts)))
