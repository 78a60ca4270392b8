-- Where a vCPU may go on.
use Rattle.std.proofs.Common.{◌≡◌, ℕ, suc, ◌+◌, ◌<◌, Bool, true, false, cond, List, [], ◌∷◌, Option, Some, is_some, refl, ap, sym, ◌∙◌, subst, arith, length, slice_get, zero}
use Rattle.std.specs.Prelude.{◌==◌, ◌&&◌, ◌||◌}
use Rattle.std.specs.List.{list_any}
use Rattle.std.proofs.lemmas.Bool.{and_parts, eqb-true, true≢false}
use Rattle.dr_types.specs.declared.guest.Guest.{Guest}
use Rattle.dr_types.specs.declared.guest.Op.{Op}
use Rattle.dr_types.specs.declared.guest.Op.TheVariants as op
use Rattle.dr_types.specs.Scripts.{operation}
use Rattle.dr_history.specs.declared.event.Event.{Event}
use Rattle.dr_history.specs.declared.event.Event.TheVariants.{Read, Write, Paint, Local, Halted, Stopped, Switched}
use Rattle.dr_history.specs.Kinds.{is_switched}
use Rattle.dr_history.specs.Vcpus.{stopped, halted}
use Rattle.dr_history.specs.Execution.{ops, acc, is_load, is_store, is_fill, is_local}
use Rattle.dr_history.specs.Legality.{IsLegalSoFar}
use Rattle.dr_history_law.specs.Length.{script_length}
use Rattle.dr_event_law.specs.May.{Ends}
use Rattle.dr_history_law.proofs.Kept.{op_next, switches_facts}

-- a guest that isn't stopped has not switched
pub running_here : (guest : Guest) (past : List Event) → IsLegalSoFar guest past → stopped past ≡ false → list_any is_switched past ≡ false
running_here guest [] legal s = refl
running_here guest (Stopped ∷ past) legal s = cc
running_here guest (Switched ∷ past) legal s = let h = (switches_facts guest past legal.0).stopped in cc
running_here guest (e ∷ past) legal s = running_here guest past legal.1 s

more_case : (same : Bool) (n m : ℕ) → n < m → (same ≡ true → n + 1 ≡ m → ⊥) → cond same (n + 1) n < m
more_case true n m h f = omega (arith, h, f refl)
more_case false n m h f = h

-- an operation that is no Halt isn't the last
no_last : (guest : Guest) (past : List Event) (w v i : ℕ) (test : Option Op → Bool) → Ends guest → test (Some op.Halt) ≡ false → (i == ops w past && test (operation guest w i)) ≡ true → ops v past < script_length guest v → cond (w == v) (ops v past + 1) (ops v past) < script_length guest v
no_last guest past w v i test ends fails next h =
    more_case (w == v) (ops v past) (script_length guest v) h
    (λ s last.
    let parts = and_parts (i == ops w past) (test (operation guest w i)) next in
    let is_w : w ≡ v = eqb-true w v s in
    let is_i : i ≡ ops v past = eqb-true i (ops w past) parts.0 ∙ ap (λ (u : ℕ). ops u past) is_w in
    let halt : operation guest w i ≡ Some op.Halt = ap (λ (u : ℕ). operation guest u i) is_w ∙ ap (λ (k : ℕ). operation guest v k) is_i ∙ ends v (ops v past) last in
    let bad : test (Some op.Halt) ≡ true = subst (λ (o : Option Op). test o ≡ true) halt parts.1 in
    true≢false (sym bad ∙ fails))

halted_case : (same had : Bool) (n m : ℕ) → (same || had) ≡ false → (had ≡ false → n < m) → cond same (n + 1) n < m
halted_case true had n m h f = absurd (true≢false h)
halted_case false had n m h f = f h

-- a vCPU that has not halted has an operation to go
pub goes_on : (guest : Guest) (past : List Event) (v : ℕ) → Ends guest → 0 < script_length guest v → IsLegalSoFar guest past → halted v past ≡ false → ops v past < script_length guest v
goes_on guest [] v ends some legal h = some
goes_on guest (Read w i space address value ∷ past) v ends some legal h =
    no_last guest past w v i (λ o. is_load o space address) ends refl (op_next guest past (Read w i space address value) legal.0) (goes_on guest past v ends some legal.1 h)
goes_on guest (Write w i space address len value ∷ past) v ends some legal h =
    no_last guest past w v i (λ o. is_store o (acc guest w past) space address len value) ends refl (op_next guest past (Write w i space address len value) legal.0) (goes_on guest past v ends some legal.1 h)
goes_on guest (Paint w i page byte ∷ past) v ends some legal h =
    no_last guest past w v i (λ o. is_fill guest o page byte) ends refl (op_next guest past (Paint w i page byte) legal.0) (goes_on guest past v ends some legal.1 h)
goes_on guest (Local w i ∷ past) v ends some legal h =
    no_last guest past w v i is_local ends refl (op_next guest past (Local w i) legal.0) (goes_on guest past v ends some legal.1 h)
goes_on guest (Halted w i ∷ past) v ends some legal h = halted_case (w == v) (halted v past) (ops v past) (script_length guest v) h (goes_on guest past v ends some legal.1)
goes_on guest (e ∷ past) v ends some legal h = goes_on guest past v ends some legal.1 h

get_within : {X : Type 0} (xs : List X) (i : ℕ) → i < length xs → is_some (slice_get xs i) ≡ true
get_within [] i h = absurd (omega arith)
get_within (x ∷ xs) zero h = refl
get_within (x ∷ xs) (suc i) h = get_within xs i (omega arith)

pub has_operation : (guest : Guest) (past : List Event) (v : ℕ) → Ends guest → 0 < script_length guest v → IsLegalSoFar guest past → halted v past ≡ false → is_some (operation guest v (ops v past)) ≡ true
unfolding operation
has_operation guest past v ends some legal h = get_within _ (ops v past) (goes_on guest past v ends some legal h)
