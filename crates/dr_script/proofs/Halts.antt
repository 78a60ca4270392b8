-- Each script of a valid guest ends with its only halt.
use Rattle.std.proofs.Common.{◌≡◌, ℕ, zero, suc, ◌+◌, ◌<◌, ◌≤◌, List, [], ◌∷◌, ◌++◌, length, refl, ap, sym, ◌∙◌, subst, arith, length-append}
use Rattle.std.specs.Prelude.{slice_get, Some, None}
use Rattle.std.proofs.lemmas.Option.{slice_get_past}
use Rattle.std.proofs.lemmas.List.Concat.{flat_map-cons}
use Rattle.std.proofs.lemmas.Grind.{flat_map-append}
use Rattle.dr_types.specs.declared.guest.SlotRow.{SlotRow}
use Rattle.dr_types.specs.declared.guest.Op.{Op}
use Rattle.dr_types.specs.declared.guest.Op.TheVariants.{Halt}
use Rattle.dr_types.specs.declared.guest.Item.{Item}
use Rattle.dr_types.specs.declared.guest.Item.TheVariants.{One, Rep}
use Rattle.dr_types.specs.declared.guest.Guest.{Guest}
use Rattle.dr_types.specs.Scripts.{repeated, written_out, expanded, script_of, operation, vcpu_count}
use Rattle.dr_types.specs.Validity.{IsOp, AreOps, IsItem, AreItems, IsScript, AreScripts, IsValid}
use Rattle.dr_script.specs.Halts.{HaltsLast}

both : (slots : List SlotRow) (xs ys : List Op) → AreOps slots xs → AreOps slots ys → AreOps slots (xs ++ ys)
both slots [] ys a b = b
both slots (x ∷ xs) ys a b = (a.0, both slots xs ys a.1 b)

again : (slots : List SlotRow) (n : ℕ) (ops : List Op) → AreOps slots ops → AreOps slots (repeated n ops)
again slots zero ops are = tt
again slots (suc n) ops are = both slots ops (repeated n ops) are (again slots n ops are)

item : (slots : List SlotRow) (it : Item) → IsItem slots it → AreOps slots (written_out it)
item slots (One op) is = (is, tt)
item slots (Rep n ops) is = again slots n ops is.3

items : (slots : List SlotRow) (its : List Item) → AreItems slots its → AreOps slots (expanded its)
items slots [] are = tt
items slots (it ∷ its) are =
    subst (AreOps slots) (sym (flat_map-cons written_out it its)) (both slots (written_out it) (expanded its) (item slots it are.0) (items slots its are.1))

-- operations none of which is a halt, and then a halt
record Ends (slots : List SlotRow) (ops : List Op) : Type 0 where
  front : List Op
  parts : ops ≡ front ++ Halt ∷ []
  valid : AreOps slots front

script : (slots : List SlotRow) (its : List Item) → IsScript slots its → Ends slots (expanded its)
script slots its is = record {
  front = expanded is.items;
  parts = ap expanded is.ends ∙ flat_map-append written_out is.items (One Halt ∷ []);
  valid = items slots is.items is.valid;
}

scripts : (slots : List SlotRow) (all : List (List Item)) (v : ℕ) → AreScripts slots all → v < length all → Ends slots (script_of (slice_get all v))
scripts slots [] v are lt = absurd (omega arith)
scripts slots (its ∷ all) zero are lt = script slots its are.0
scripts slots (its ∷ all) (suc v) are lt = scripts slots all v are.1 (omega arith)

halt_at : (front : List Op) (i : ℕ) → i ≡ length front → slice_get (front ++ Halt ∷ []) i ≡ Some Halt
halt_at [] zero e = refl
halt_at [] (suc i) e = absurd (omega (arith, e))
halt_at (op ∷ front) zero e = absurd (omega (arith, e))
halt_at (op ∷ front) (suc i) e = halt_at front i (omega (arith, e))

halt_only : (slots : List SlotRow) (front : List Op) (i : ℕ) → AreOps slots front → slice_get (front ++ Halt ∷ []) i ≡ Some Halt → i ≡ length front
halt_only slots [] zero are h = refl
halt_only slots [] (suc zero) are h = cc
halt_only slots [] (suc (suc i)) are h = cc
halt_only slots (op ∷ front) zero are h =
    let same : op ≡ Halt = cc in
    absurd (subst (IsOp slots) same are.0)
halt_only slots (op ∷ front) (suc i) are h = ap suc (halt_only slots front i are.1 h)

none_past : (ops : List Op) (i : ℕ) → slice_get ops i ≡ None → length ops ≤ i
none_past [] i h = omega arith
none_past (op ∷ ops) zero h = cc
none_past (op ∷ ops) (suc i) h = let le : length ops ≤ i = none_past ops i h in omega arith

pub halts_last : (guest : Guest) (v : ℕ) → IsValid guest → v < vcpu_count guest → HaltsLast guest v
unfolding operation
halts_last guest v valid lt =
    let ops : List Op = script_of (slice_get guest.scripts v) in
    let ends : Ends guest.slots ops = scripts guest.slots guest.scripts v valid.scripts lt in
    let long : length ops ≡ length ends.front + 1 = ap length ends.parts ∙ length-append ends.front (Halt ∷ []) in
    record {
      some = omega (arith, long);
      last = (λ i e. ap (λ (xs : List Op). slice_get xs i) ends.parts ∙ halt_at ends.front i (omega (arith, e, long)));
      alone = (λ i h.
          let at : i ≡ length ends.front = halt_only guest.slots ends.front i ends.valid (sym (ap (λ (xs : List Op). slice_get xs i) ends.parts) ∙ h) in
          omega (arith, at, long));
      ended = (λ i h. none_past ops i h);
      past = (λ i le. slice_get_past ops i le);
    }
