-- No line of a guest's text is the line `journal`.
use Rattle.std.proofs.Common.{◌≡◌, ℕ, true, false, List, [], ◌∷◌, ◌++◌, map, refl, ap, sym, subst, ◌∙◌}
use Rattle.std.specs.Prelude.{◌==◌, codes}
use Rattle.std.specs.List.{flat_map, join_with_byte}
use Rattle.std.proofs.lemmas.List.Concat.{flat_map-cons}
use Rattle.dr_types.specs.declared.guest.Settings.{Settings}
use Rattle.dr_types.specs.declared.guest.SlotRow.{SlotRow}
use Rattle.dr_types.specs.declared.guest.Op.{Op}
use Rattle.dr_types.specs.declared.guest.Op.TheVariants.{W, F, R, A, S, Nap, Halt}
use Rattle.dr_types.specs.declared.guest.Item.{Item}
use Rattle.dr_types.specs.declared.guest.Item.TheVariants.{One, Rep}
use Rattle.dr_types.specs.declared.guest.Guest.{Guest}
use Rattle.dr_types.specs.GuestText.{settings_lines, slot_line, op_line, item_lines, script_lines, guest_lines}
use Rattle.dr_journal_law.proofs.Cutting.{AreOthers, written}

-- the first byte of a line
abbrev first : List ℕ → ℕ
first [] = 0
first (byte ∷ bytes) = byte

-- lines that begin with another byte than `journal`
abbrev AreNamed : List (List (List ℕ)) → Type 0
AreNamed [] = Unit {0}
AreNamed (words ∷ lines) = ((first (join_with_byte 32 words) == 106) ≡ false) × AreNamed lines

append : (lines more : List (List (List ℕ))) → AreNamed lines → AreNamed more → AreNamed (lines ++ more)
append [] more a b = b
append (words ∷ lines) more a b = (a.0, append lines more a.1 b)

op_named : (op : Op) → AreNamed (op_line op ∷ [])
op_named (W space address len value) = (refl, tt)
op_named (F space frame byte) = (refl, tt)
op_named (R space address) = (refl, tt)
op_named (A n) = (refl, tt)
op_named (S space address) = (refl, tt)
op_named (Nap us) = (refl, tt)
op_named Halt = (refl, tt)

ops_named : (ops : List Op) → AreNamed (map op_line ops)
ops_named [] = tt
ops_named (op ∷ ops) = append (op_line op ∷ []) (map op_line ops) (op_named op) (ops_named ops)

item_named : (item : Item) → AreNamed (item_lines item)
item_named (One op) = op_named op
item_named (Rep times body) = (refl, append (map op_line body) ((codes "end" ∷ []) ∷ []) (ops_named body) (refl, tt))

items_named : (items : List Item) → AreNamed (flat_map item_lines items)
items_named [] = tt
items_named (item ∷ items) =
    subst AreNamed (sym (flat_map-cons item_lines item items)) (append (item_lines item) (flat_map item_lines items) (item_named item) (items_named items))

script_named : (script : List Item) → AreNamed (script_lines script)
script_named script = (refl, items_named script)

scripts_named : (scripts : List (List Item)) → AreNamed (flat_map script_lines scripts)
scripts_named [] = tt
scripts_named (script ∷ scripts) =
    subst AreNamed (sym (flat_map-cons script_lines script scripts)) (append (script_lines script) (flat_map script_lines scripts) (script_named script) (scripts_named scripts))

slots_named : (rows : List SlotRow) → AreNamed (map slot_line rows)
slots_named [] = tt
slots_named (row ∷ rows) = (refl, slots_named rows)

settings_named : (s : Settings) → AreNamed (settings_lines s)
settings_named s = (refl, (refl, (refl, (refl, (refl, (refl, (refl, tt)))))))

guest_named : (guest : Guest) → AreNamed (guest_lines guest)
guest_named guest = (
  refl,
  append (settings_lines guest.settings) (map slot_line guest.slots ++ flat_map script_lines guest.scripts) (settings_named guest.settings)
      (append (map slot_line guest.slots) (flat_map script_lines guest.scripts) (slots_named guest.slots) (scripts_named guest.scripts)),
)

is_not : (byte : ℕ) → (byte == 106) ≡ false → byte ≡ 106 → ⊥
is_not byte test is = let wrong : true ≡ false = sym (ap (λ (it : ℕ). it == 106) is) ∙ test in cc

others : (lines : List (List (List ℕ))) → AreNamed lines → AreOthers (codes "journal") (written lines)
others [] are = tt
others (words ∷ lines) are = (λ same. is_not (first (join_with_byte 32 words)) are.0 (ap first same), others lines are.1)

-- no line of a guest's text is the line `journal`
pub guest_others : (guest : Guest) → AreOthers (codes "journal") (written (guest_lines guest))
guest_others guest = others (guest_lines guest) (guest_named guest)
