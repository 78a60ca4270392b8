-- The slots of the tests.
use Rattle.std.proofs.Common.{◌≡◌, ℕ, ◌+◌, ◌^◌, ◌≤◌, List, [], ◌∷◌, refl, sym, subst, arith}
use Rattle.std.specs.Prelude.{All}
use Rattle.std.proofs.lemmas.List.Elements.{All-cons, All-nil}
use Rattle.dr_types.specs.declared.guest.SlotRow.{SlotRow}
use Rattle.dr_types.specs.Validity.{AreSlots}

abbrev row : ℕ → ℕ → ℕ → SlotRow
row id base pages = record { space = 0; id = id; base = base; pages = pages }

both : (P : SlotRow → Type 0) (a b : SlotRow) → P a → P b → All P (a ∷ b ∷ [])
both P a b h g = All-cons P a (b ∷ []) h (All-cons P b [] g (All-nil P))

abbrev two_slots : List SlotRow
two_slots = row 5 100 2 ∷ row 7 0 66 ∷ []

are_slots : AreSlots two_slots
are_slots = record {
  some = omega arith;
  few = omega arith;
  spaces = both (λ row. row.space ≤ 1) _ _ (omega arith) (omega arith);
  ids = both (λ row. row.id ≤ 65535) _ _ (omega arith) (omega arith);
  some_pages = both (λ row. 1 ≤ row.pages) _ _ (omega arith) (omega arith);
  ends = both (λ row. row.base + row.pages ≤ 2 ^ 52) _ _ (omega arith) (omega arith);
  differ = ((λ e. omega (arith, e), tt), (tt, tt));
  apart = ((refl, tt), (tt, tt));
  pages = omega arith;
}

pub two_are_slots : (rows : List SlotRow) → rows ≡ two_slots → AreSlots rows
two_are_slots rows is = subst AreSlots (sym is) are_slots
