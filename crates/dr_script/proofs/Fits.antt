-- Each op of a valid guest is one that its slots have room for.
use Rattle.std.proofs.Common.{ℕ, zero, suc, List, [], ◌∷◌, ◌++◌, subst, sym}
use Rattle.std.specs.Prelude.{slice_get, IfSome}
use Rattle.std.proofs.lemmas.List.Concat.{flat_map-cons}
use Rattle.std.proofs.lemmas.Grind.{flat_map-append}
use Rattle.dr_types.specs.declared.guest.SlotRow.{SlotRow}
use Rattle.dr_types.specs.declared.guest.Op.{Op}
use Rattle.dr_types.specs.declared.guest.Op.TheVariants.{W, F, R, A, S, Nap, Halt}
use Rattle.dr_types.specs.declared.guest.Item.{Item}
use Rattle.dr_types.specs.declared.guest.Item.TheVariants.{One, Rep}
use Rattle.dr_types.specs.declared.guest.Guest.{Guest}
use Rattle.dr_types.specs.Scripts.{repeated, written_out, expanded, script_of, operation}
use Rattle.dr_types.specs.Validity.{IsOp, AreOps, IsItem, AreItems, IsScript, AreScripts, IsValid}
use Rattle.dr_script.specs.Fits.{IsOpOrHalt}

abbrev Each : List SlotRow → List Op → Type 0
Each slots [] = Unit {0}
Each slots (op ∷ ops) = IsOpOrHalt slots op × Each slots ops

one : (slots : List SlotRow) (op : Op) → IsOp slots op → IsOpOrHalt slots op
one slots (W space address len value) is = is
one slots (F space frame byte) is = is
one slots (R space address) is = is
one slots (A n) is = is
one slots (S space address) is = is
one slots (Nap us) is = is
one slots Halt is = tt

both : (slots : List SlotRow) (xs ys : List Op) → Each slots xs → Each slots ys → Each slots (xs ++ ys)
both slots [] ys a b = b
both slots (x ∷ xs) ys a b = (a.0, both slots xs ys a.1 b)

body : (slots : List SlotRow) (ops : List Op) → AreOps slots ops → Each slots ops
body slots [] are = tt
body slots (op ∷ ops) are = (one slots op are.0, body slots ops are.1)

again : (slots : List SlotRow) (n : ℕ) (ops : List Op) → Each slots ops → Each slots (repeated n ops)
again slots zero ops each = tt
again slots (suc n) ops each = both slots ops (repeated n ops) each (again slots n ops each)

item : (slots : List SlotRow) (it : Item) → IsItem slots it → Each slots (written_out it)
item slots (One op) is = (one slots op is, tt)
item slots (Rep n ops) is = again slots n ops (body slots ops is.3)

items : (slots : List SlotRow) (its : List Item) → AreItems slots its → Each slots (expanded its)
items slots [] are = tt
items slots (it ∷ its) are =
    subst (Each slots) (sym (flat_map-cons written_out it its)) (both slots (written_out it) (expanded its) (item slots it are.0) (items slots its are.1))

script : (slots : List SlotRow) (its : List Item) → IsScript slots its → Each slots (expanded its)
script slots its is =
    let halt : Each slots (expanded (One Halt ∷ [])) = (tt, tt) in
    subst (λ xs. Each slots (expanded xs)) (sym is.ends)
    (subst (Each slots) (sym (flat_map-append written_out is.items (One Halt ∷ [])))
    (both slots (expanded is.items) (expanded (One Halt ∷ [])) (items slots is.items is.valid) halt))

at : (slots : List SlotRow) (ops : List Op) (i : ℕ) → Each slots ops → IfSome (slice_get ops i) (IsOpOrHalt slots)
at slots [] zero each = tt
at slots [] (suc i) each = tt
at slots (op ∷ ops) zero each = each.0
at slots (op ∷ ops) (suc i) each = at slots ops i each.1

scripts : (slots : List SlotRow) (all : List (List Item)) (v : ℕ) → AreScripts slots all → Each slots (script_of (slice_get all v))
scripts slots [] zero are = tt
scripts slots [] (suc v) are = tt
scripts slots (its ∷ all) zero are = script slots its are.0
scripts slots (its ∷ all) (suc v) are = scripts slots all v are.1

pub op_fits : (guest : Guest) (v i : ℕ) → IsValid guest → IfSome (operation guest v i) (IsOpOrHalt guest.slots)
unfolding operation
op_fits guest v i valid = at guest.slots (script_of (slice_get guest.scripts v)) i (scripts guest.slots guest.scripts v valid.scripts)
