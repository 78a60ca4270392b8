-- The operations of a valid guest, and what they leave.
use Rattle.std.proofs.Common.{◌≡◌, ℕ, ◌+◌, ◌-◌, ◌<◌, ◌≤◌, Bool, true, false, cond, List, [], ◌∷◌, Option, Some, None, refl, arith, inl, inr, length, slice_get}
use Rattle.std.specs.Prelude.{◌==◌}
use Rattle.std.specs.List.{list_any}
use Rattle.std.proofs.lemmas.Bool.{le-leb, leb-true, ltb-true, and_parts, cases_lt}
use Rattle.std.proofs.lemmas.Option.{slice_get_past}
use Rattle.dr_types.specs.declared.guest.Guest.{Guest}
use Rattle.dr_types.specs.declared.guest.Item.{Item}
use Rattle.dr_types.specs.declared.guest.SlotRow.{SlotRow}
use Rattle.dr_types.specs.declared.guest.Op.{Op}
use Rattle.dr_types.specs.declared.guest.Op.TheVariants as op
use Rattle.dr_types.specs.Pages.{has_frame, page_count, page_from, pages_of_slots}
use Rattle.dr_types.specs.Scripts.{script_of, vcpu_count}
use Rattle.dr_types.specs.Validity.{IsValid, Lies}
use Rattle.dr_script.specs.Fits.{IsOpOrHalt}
use Rattle.dr_script.proofs.Halts.{halts_last}
use Rattle.dr_history.specs.declared.event.Event.{Event}
use Rattle.dr_history.specs.declared.event.Event.TheVariants.{Read, Write, Paint, Local, Halted}
use Rattle.dr_history.specs.Entries.{opens, pushes, resets}
use Rattle.dr_history.specs.Kinds.{is_switched}
use Rattle.dr_history.specs.Rules.{in_one_page, vcpu_of_op}
use Rattle.dr_history_law.specs.Length.{script_length}
use Rattle.dr_history_law.specs.Room.{unpushed}
use Rattle.dr_event_law.specs.May.{AtRest, Ends}
use Rattle.dr_event_law.specs.Operations.{OpFits}
use Rattle.dr_event_law.proofs.Rest.{settles}

none_of : (o : Option (List Item)) → o ≡ None → length (script_of o) ≡ 0
none_of None h = refl
none_of (Some script) h = cc

-- each script of a valid guest ends with a halt
pub valid_ends : (guest : Guest) → IsValid guest → Ends guest
valid_ends guest valid v i last =
    elim (cases_lt v (vcpu_count guest)) [
      | inl lt ↦ (halts_last guest v valid lt).last i last
      | inr le ↦ absurd (let none = none_of (slice_get guest.scripts v) (slice_get_past guest.scripts v le) in omega (arith, last, none))
    ]

-- and has some operation
pub valid_some : (guest : Guest) (v : ℕ) → IsValid guest → v < vcpu_count guest → 0 < script_length guest v
valid_some guest v valid lt = let some : 1 ≤ script_length guest v = (halts_last guest v valid lt).some in omega (arith, some)

-- bytes that lie in a slot lie in one page
pub lies_in_one_page : (guest : Guest) (space address bytes : ℕ) → Lies guest.slots space address bytes → in_one_page guest space address bytes ≡ true
lies_in_one_page guest space address bytes lies = rw lies.mapped (le-leb _ _ lies.in_page)

-- an operation of these slots has its bytes in one page
pub op_in_page : (guest : Guest) (o : Op) → IsOpOrHalt guest.slots o → OpFits guest o
op_in_page guest (op.W space address len value) is = lies_in_one_page guest space address len is.4
op_in_page guest (op.F space frame byte) is = is.2
op_in_page guest (op.R space address) is = lies_in_one_page guest space address 8 is.1
op_in_page guest (op.S space address) is = lies_in_one_page guest space address 8 is.1
op_in_page guest (op.A n) is = tt
op_in_page guest (op.Nap us) is = tt
op_in_page guest op.Halt is = tt

within_case : (here : Bool) (first base pages frame more page : ℕ) (rest : Option ℕ) → (here ≡ true → (base ≤ frame) × (frame < base + pages)) → (rest ≡ Some page → page < first + pages + more)
    → cond here (Some (first + (frame - base))) rest ≡ Some page → page < first + (pages + more)
within_case true first base pages frame more page rest f g h =
    let same : first + (frame - base) ≡ page = cc in
    let parts = f refl in
    let low : base ≤ frame = parts.0 in
    let high : frame < base + pages = parts.1 in
    omega (arith, same, low, high)
within_case false first base pages frame more page rest f g h = omega (arith, g h)

page_from_within : (first : ℕ) (rows : List SlotRow) (space frame page : ℕ) → page_from first rows space frame ≡ Some page → page < first + pages_of_slots rows
page_from_within first [] space frame page h = cc
page_from_within first (row ∷ rows) space frame page h =
    within_case (has_frame row space frame) first row.base row.pages frame (pages_of_slots rows) page (page_from (first + row.pages) rows space frame)
    (λ here. let parts = and_parts _ _ (and_parts (row.space == space) _ here).1 in (leb-true row.base frame parts.0, ltb-true frame (row.base + row.pages) parts.1))
    (page_from_within (first + row.pages) rows space frame page) h

-- the page of a frame is one of the guest
pub frame_page : (guest : Guest) (space frame page : ℕ) → page_from 0 guest.slots space frame ≡ Some page → page < page_count guest
frame_page guest space frame page is = let lt : page < 0 + pages_of_slots guest.slots = page_from_within 0 guest.slots space frame page is in omega (arith, lt)

-- after an operation the history is at rest
pub op_rest : (guest : Guest) (past : List Event) (e : Event) (v : ℕ) → vcpu_of_op e ≡ Some v → list_any is_switched past ≡ false → AtRest guest (e ∷ past)
op_rest guest past (Read w i space a x) v is here = settles guest past (Read w i space a x) tt here
op_rest guest past (Write w i space a l x) v is here = settles guest past (Write w i space a l x) tt here
op_rest guest past (Paint w i q b) v is here = settles guest past (Paint w i q b) tt here
op_rest guest past (Local w i) v is here = settles guest past (Local w i) tt here
op_rest guest past (Halted w i) v is here = settles guest past (Halted w i) tt here
op_rest guest past e v is here = cc

-- what an operation leaves of the counts of entries
pub record Counts (past : List Event) (e : Event) (u : ℕ) : Type 0 where
  pub opens_stay : opens u (e ∷ past) ≡ opens u past
  pub pushes_stay : pushes u (e ∷ past) ≡ pushes u past
  pub resets_stay : resets u (e ∷ past) ≡ resets u past
  pub unpushed_stay : unpushed u (e ∷ past) ≡ unpushed u past

-- it leaves all of them
pub op_counts : (past : List Event) (e : Event) (v u : ℕ) → vcpu_of_op e ≡ Some v → Counts past e u
op_counts past (Read w i space a x) v u is = record { opens_stay = refl; pushes_stay = refl; resets_stay = refl; unpushed_stay = refl }
op_counts past (Write w i space a l x) v u is = record { opens_stay = refl; pushes_stay = refl; resets_stay = refl; unpushed_stay = refl }
op_counts past (Paint w i q b) v u is = record { opens_stay = refl; pushes_stay = refl; resets_stay = refl; unpushed_stay = refl }
op_counts past (Local w i) v u is = record { opens_stay = refl; pushes_stay = refl; resets_stay = refl; unpushed_stay = refl }
op_counts past (Halted w i) v u is = record { opens_stay = refl; pushes_stay = refl; resets_stay = refl; unpushed_stay = refl }
op_counts past e v u is = cc
