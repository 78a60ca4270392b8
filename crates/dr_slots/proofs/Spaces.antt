-- The address spaces of the slots.
use Rattle.std.proofs.Common.{◌≡◌, ℕ, ◌+◌, ◌<◌, Bool, true, false, cond, List, [], ◌∷◌, Option, Some, is_some, refl, subst}
use Rattle.std.specs.Prelude.{◌==◌, All}
use Rattle.std.proofs.lemmas.Bool.{eqb-true, and_parts, false≢true}
use Rattle.std.proofs.lemmas.List.Elements.{All-head, All-tail}
use Rattle.dr_types.specs.declared.guest.SlotRow.{SlotRow}
use Rattle.dr_types.specs.Pages.{has_frame, page_from}

either : (here : Bool) (n : ℕ) (rest : Option ℕ) (G : Type 0) → (here ≡ true → G) → (is_some rest ≡ true → G) → is_some (cond here (Some n) rest) ≡ true → G
either true n rest G f g h = f refl
either false n rest G f g h = g h

-- where a frame of a space lies in a slot, a bound on the slots' spaces holds for that space
pub mapped_below : (rows : List SlotRow) (first space frame bound : ℕ) → All (λ row. row.space < bound) rows → is_some (page_from first rows space frame) ≡ true → space < bound
mapped_below [] first space frame bound all h = absurd (false≢true h)
mapped_below (row ∷ rows) first space frame bound all h =
    either (has_frame row space frame) _ (page_from (first + row.pages) rows space frame) (space < bound)
    (λ t. subst (λ (s : ℕ). s < bound) (eqb-true row.space space (and_parts (row.space == space) _ t).0) (All-head (λ (r : SlotRow). r.space < bound) row rows all))
    (mapped_below rows (first + row.pages) space frame bound (All-tail (λ (r : SlotRow). r.space < bound) row rows all)) h
