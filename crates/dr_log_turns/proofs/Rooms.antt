-- The room that an op's event takes is that of its page.
use Rattle.std.proofs.Common.{◌≡◌, ℕ, true, List, Option, Some, None, is_some, sym, ap, ◌∙◌, subst}
use Rattle.std.specs.Prelude.{◌==◌, IfSome}
use Rattle.std.proofs.lemmas.Bool.{and_parts, eqb-true, false≢true}
use Rattle.dr_types.specs.declared.guest.Guest.{Guest}
use Rattle.dr_types.specs.declared.guest.Op.{Op}
use Rattle.dr_types.specs.declared.guest.Op.TheVariants as op
use Rattle.dr_types.specs.Pages.{page_of_address, page_of_frame}
use Rattle.dr_types.specs.Scripts.{operation}
use Rattle.dr_types.specs.Validity.{IsValid}
use Rattle.dr_script.specs.Fits.{IsOpOrHalt}
use Rattle.dr_script.proofs.Fits.{op_fits}
use Rattle.dr_history.specs.declared.event.Event.{Event}
use Rattle.dr_history.specs.declared.event.Event.TheVariants.{Write, Paint}
use Rattle.dr_history.specs.Execution.{ops}
use Rattle.dr_history.specs.Lookback.{is_number}
use Rattle.dr_event_law.specs.May.{WritesNext}
use Rattle.dr_event_law.specs.Operations.{op_event, op_page, OpFits}
use Rattle.dr_log.specs.Room.{Room, has_page, HasRoomFor}
use Rattle.dr_turns_law.proofs.Operations.{op_in_page}

at_place : (page : ℕ) (room : Room) (place : Option ℕ) → is_number page place ≡ true → has_page page room ≡ true → IfSome place (λ q. has_page q room ≡ true)
at_place page room None n h = absurd (false≢true n)
at_place page room (Some q) n h = subst (λ (p : ℕ). has_page p room ≡ true) (sym (eqb-true q page n)) h

-- a write takes the room of the page that it writes
pub write_has_room : (guest : Guest) (past : List Event) (v page : ℕ) (e : Event) (room : Room) → WritesNext guest past v page e → has_page page room ≡ true → HasRoomFor guest e room
write_has_room guest past v page (Write w i space address len value) room m h =
    at_place page room (page_of_address guest space address) (and_parts (w == v) (is_number page (page_of_address guest space address)) m.writes).1 h
write_has_room guest past v page (Paint w i q byte) room m h =
    subst (λ (p : ℕ). has_page p room ≡ true) (sym (eqb-true q page (and_parts (w == v) (q == page) m.writes).1)) h
write_has_room guest past v page e room m h = absurd (false≢true m.writes)

nowhere : (room : Room) (place : Option ℕ) → place ≡ None → IfSome place (λ q. has_page q room ≡ true)
nowhere room place is = subst (λ (p : Option ℕ). IfSome p (λ q. has_page q room ≡ true)) (sym is) tt

no_frame : (place : Option ℕ) → place ≡ None → is_some place ≡ true → ⊥
no_frame place is some = false≢true (sym (ap (λ (p : Option ℕ). is_some p) is) ∙ some)

quiet_case : (guest : Guest) (past : List Event) (v : ℕ) (o : Op) (room : Room) → OpFits guest o → op_page guest o ≡ None → HasRoomFor guest (op_event guest v past o) room
quiet_case guest past v (op.W space address len value) room fits is = nowhere room (page_of_address guest space address) is
quiet_case guest past v (op.F space frame byte) room fits is = absurd (no_frame (page_of_frame guest.slots space frame) is fits)
quiet_case guest past v (op.S space address) room fits is = nowhere room (page_of_address guest space address) is
quiet_case guest past v (op.R space address) room fits is = tt
quiet_case guest past v (op.A n) room fits is = tt
quiet_case guest past v (op.Nap us) room fits is = tt
quiet_case guest past v op.Halt room fits is = tt

-- a next op of a valid guest has its numbers in their ranges
pub op_in_range : (guest : Guest) (past : List Event) (v : ℕ) (o : Op) → IsValid guest → operation guest v (ops v past) ≡ Some o → IsOpOrHalt guest.slots o
op_in_range guest past v o valid is = subst (λ (p : Option Op). IfSome p (IsOpOrHalt guest.slots)) is (op_fits guest v (ops v past) valid)

-- an op that writes no page takes no room
pub quiet_has_room : (guest : Guest) (past : List Event) (v : ℕ) (o : Op) (room : Room) → IsValid guest → operation guest v (ops v past) ≡ Some o → op_page guest o ≡ None → HasRoomFor guest (op_event guest v past o) room
quiet_has_room guest past v o room valid is none = quiet_case guest past v o room (op_in_page guest o (op_in_range guest past v o valid is)) none
