-- How many operations a vCPU executes.
use Rattle.std.proofs.Common.{◌≡◌, ℕ, ◌<◌, ◌≤◌, Bool, true, List, length, slice_get, inl, inr, [], ◌∷◌, Option, None, Some, is_some, refl, arith, ap, sym, ◌∙◌, subst}
use Rattle.std.specs.Prelude.{◌&&◌, ◌==◌}
use Rattle.std.proofs.lemmas.Bool.{eqb-true, and_parts, false≢true, cases_lt}
use Rattle.std.proofs.lemmas.Option.{slice_get_past}
use Rattle.dr_types.specs.declared.guest.Guest.{Guest}
use Rattle.dr_types.specs.declared.guest.Op.{Op}
use Rattle.dr_types.specs.Scripts.{script_of, operation}
use Rattle.dr_history.specs.declared.event.Event.{Event}
use Rattle.dr_history.specs.declared.event.Event.TheVariants.{Read, Write, Paint, Local, Halted}
use Rattle.dr_history.specs.Execution.{ops, acc, is_load, is_store, is_fill, is_local, is_halt}
use Rattle.dr_history.specs.Legality.{IsLegalSoFar}
use Rattle.dr_history_law.specs.Length.{script_length}
use Rattle.dr_history_law.proofs.Kept.{op_next}
use Rattle.dr_history_law.proofs.Outstanding.{one_more}

load_some : (o : Option Op) (space address : ℕ) → is_load o space address ≡ true → is_some o ≡ true
load_some None space address h = absurd (false≢true h)
load_some (Some op) space address h = refl

store_some : (o : Option Op) (register space address len value : ℕ) → is_store o register space address len value ≡ true → is_some o ≡ true
store_some None register space address len value h = absurd (false≢true h)
store_some (Some op) register space address len value h = refl

fill_some : (guest : Guest) (o : Option Op) (page byte : ℕ) → is_fill guest o page byte ≡ true → is_some o ≡ true
fill_some guest None page byte h = absurd (false≢true h)
fill_some guest (Some op) page byte h = refl

local_some : (o : Option Op) → is_local o ≡ true → is_some o ≡ true
local_some None h = absurd (false≢true h)
local_some (Some op) h = refl

halt_some : (o : Option Op) → is_halt o ≡ true → is_some o ≡ true
halt_some None h = absurd (false≢true h)
halt_some (Some op) h = refl

some_within : (xs : List Op) (k : ℕ) → is_some (slice_get xs k) ≡ true → k < length xs
some_within xs k h =
    elim (cases_lt k (length xs)) [
      | inl l ↦ l
      | inr g ↦ absurd (false≢true (sym (ap (λ (o : Option Op). is_some o) (slice_get_past xs k g)) ∙ h))
    ]

-- the next operation is one of the script
next_within : (guest : Guest) (past : List Event) (w v i : ℕ) (t : Bool) → (i == ops w past && t) ≡ true → (t ≡ true → is_some (operation guest w i) ≡ true) → (w == v) ≡ true → ops v past < script_length guest v
unfolding operation
next_within guest past w v i t h f s =
    let parts = and_parts (i == ops w past) t h in
    let lt : i < script_length guest w = some_within (script_of (slice_get guest.scripts w)) i (f parts.1) in
    subst (λ (u : ℕ). ops u past < script_length guest u) (eqb-true w v s) (subst (λ (n : ℕ). n < script_length guest w) (eqb-true i (ops w past) parts.0) lt)

pub stays_in_script : (guest : Guest) (past : List Event) (v : ℕ) → IsLegalSoFar guest past → ops v past ≤ script_length guest v
stays_in_script guest [] v legal = omega arith
stays_in_script guest (Read w i space address value ∷ past) v legal =
    one_more (w == v) (ops v past) (script_length guest v)
    (next_within guest past w v i (is_load (operation guest w i) space address) (op_next guest past (Read w i space address value) legal.0) (load_some (operation guest w i) space address))
    (stays_in_script guest past v legal.1)
stays_in_script guest (Write w i space address len value ∷ past) v legal =
    one_more (w == v) (ops v past) (script_length guest v)
    (next_within guest past w v i (is_store (operation guest w i) (acc guest w past) space address len value) (op_next guest past (Write w i space address len value) legal.0) (store_some (operation guest w i) (acc guest w past) space address len value))
    (stays_in_script guest past v legal.1)
stays_in_script guest (Paint w i page byte ∷ past) v legal =
    one_more (w == v) (ops v past) (script_length guest v)
    (next_within guest past w v i (is_fill guest (operation guest w i) page byte) (op_next guest past (Paint w i page byte) legal.0) (fill_some guest (operation guest w i) page byte))
    (stays_in_script guest past v legal.1)
stays_in_script guest (Local w i ∷ past) v legal =
    one_more (w == v) (ops v past) (script_length guest v)
    (next_within guest past w v i (is_local (operation guest w i)) (op_next guest past (Local w i) legal.0) (local_some (operation guest w i)))
    (stays_in_script guest past v legal.1)
stays_in_script guest (Halted w i ∷ past) v legal =
    one_more (w == v) (ops v past) (script_length guest v)
    (next_within guest past w v i (is_halt (operation guest w i)) (op_next guest past (Halted w i) legal.0) (halt_some (operation guest w i)))
    (stays_in_script guest past v legal.1)
stays_in_script guest (e ∷ past) v legal = stays_in_script guest past v legal.1
