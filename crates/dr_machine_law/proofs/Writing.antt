-- Which pages keep their bytes where a vCPU executes.
use Rattle.std.proofs.Common.{◌≡◌, ◌≢◌, ℕ, ◌%◌, Bool, true, false, cond, List, ◌∷◌, Option, Some, None, is_some, refl, ap, ◌∙◌}
use Rattle.std.specs.Prelude.{◌==◌, ◌||◌, not}
use Rattle.std.proofs.lemmas.Bool.{ne_eqb}
use Rattle.dr_types.specs.declared.guest.Guest.{Guest}
use Rattle.dr_types.specs.declared.guest.Op.{Op}
use Rattle.dr_types.specs.declared.guest.Op.TheVariants as op
use Rattle.dr_types.specs.Lines.{low_bytes}
use Rattle.dr_types.specs.Pages.{page_of_address, page_of_frame}
use Rattle.dr_types.specs.Scripts.{operation}
use Rattle.dr_types.specs.Validity.{IsValid}
use Rattle.dr_history.specs.declared.event.Event.{Event}
use Rattle.dr_history.specs.declared.event.Event.TheVariants.{Opened, Filled}
use Rattle.dr_history.specs.Entries.{opens}
use Rattle.dr_history.specs.Execution.{ops, acc}
use Rattle.dr_history.specs.Lookback.{is_number}
use Rattle.dr_history.specs.Memory.{page_bytes, page_after, filled, overwritten}
use Rattle.dr_history.specs.Protection.{started, writable, cached}
use Rattle.dr_event_law.specs.Operations.{op_event, op_page, page_or_zero, OpFits}
use Rattle.dr_turns.specs.Turns.{event_after, op_after, executed, after_op}
use Rattle.dr_turns_law.proofs.Executing.{op_fits}
use Rattle.dr_machine_law.specs.Turns.{page_of_op, next_page}
use Rattle.dr_machine_law.proofs.Pushing.{by_full}

after_case : (guest : Guest) (page : ℕ) (alone writes : Bool) (a b c : List Event) (bytes : List ℕ) → page_bytes guest page a ≡ bytes → page_bytes guest page b ≡ bytes → page_bytes guest page c ≡ bytes → page_bytes guest page (cond alone a (cond writes b c)) ≡ bytes
after_case guest page true writes a b c bytes x y z = x
after_case guest page false true a b c bytes x y z = y
after_case guest page false false a b c bytes x y z = z

-- of an op's event and what stands before it, the event alone writes
pub event_bytes : (guest : Guest) (page v : ℕ) (e : Event) (place : Option ℕ) (past : List Event) → page_bytes guest page (event_after v e place past) ≡ page_after guest page e (page_bytes guest page past)
event_bytes guest page v e None past = refl
event_bytes guest page v e (Some q) past =
    after_case guest page (not (started past) || cached v q past) (writable q past) (e ∷ past) (e ∷ Filled v q ∷ past) (e ∷ Opened v (opens v past) q ∷ past) (page_after guest page e (page_bytes guest page past))
    refl refl refl

another : (page : ℕ) (place : Option ℕ) → place ≢ Some page → is_number page place ≡ false
another page None ne = refl
another page (Some q) ne = ne_eqb q page (λ h. ne (ap (λ (n : ℕ). Some n) h))

kept : {X : Type 0} (b : Bool) (x y : X) → b ≡ false → cond b x y ≡ y
kept b x y is = rw is refl

painted : (page : ℕ) (place : Option ℕ) (byte : ℕ) (bytes : List ℕ) → is_some place ≡ true → place ≢ Some page → cond (page_or_zero place == page) (filled byte) bytes ≡ bytes
painted page None byte bytes some ne = cc
painted page (Some q) byte bytes some ne = kept (q == page) (filled byte) bytes (ne_eqb q page (λ h. ne (ap (λ (n : ℕ). Some n) h)))

-- an op leaves the pages that it doesn't write
pub op_keeps : (guest : Guest) (page v : ℕ) (past : List Event) (o : Op) (bytes : List ℕ) → OpFits guest o → op_page guest o ≢ Some page → page_after guest page (op_event guest v past o) bytes ≡ bytes
op_keeps guest page v past (op.W space address len value) bytes fits ne =
    kept (is_number page (page_of_address guest space address)) (overwritten bytes (address % 4096) (low_bytes len value)) bytes (another page (page_of_address guest space address) ne)
op_keeps guest page v past (op.F space frame byte) bytes fits ne = painted page (page_of_frame guest.slots space frame) byte bytes fits ne
op_keeps guest page v past (op.S space address) bytes fits ne =
    kept (is_number page (page_of_address guest space address)) (overwritten bytes (address % 4096) (low_bytes 8 (acc guest v past))) bytes (another page (page_of_address guest space address) ne)
op_keeps guest page v past (op.R space address) bytes fits ne = refl
op_keeps guest page v past (op.A n) bytes fits ne = refl
op_keeps guest page v past (op.Nap us) bytes fits ne = refl
op_keeps guest page v past op.Halt bytes fits ne = refl

after_keeps : (guest : Guest) (page v : ℕ) (past : List Event) (next : Option Op) → ((o : Op) → next ≡ Some o → OpFits guest o) → page_of_op guest next ≢ Some page → page_bytes guest page (op_after guest v next past) ≡ page_bytes guest page past
after_keeps guest page v past None fits ne = refl
after_keeps guest page v past (Some o) fits ne =
    event_bytes guest page v (op_event guest v past o) (op_page guest o) past ∙ op_keeps guest page v past o (page_bytes guest page past) (fits o refl) ne

executed_keeps : (guest : Guest) (page v : ℕ) (past : List Event) → IsValid guest → next_page guest v past ≢ Some page → page_bytes guest page (executed guest v past) ≡ page_bytes guest page past
unfolding executed
executed_keeps guest page v past valid ne =
    after_keeps guest page v past (operation guest v (ops v past)) (λ o is. op_fits guest v (ops v past) o valid is) ne

-- a vCPU's turn leaves the pages that its next op doesn't write
pub bytes_after : (guest : Guest) (page v : ℕ) (past : List Event) → IsValid guest → next_page guest v past ≢ Some page → page_bytes guest page (after_op guest v past) ≡ page_bytes guest page past
bytes_after guest page v past valid ne =
    by_full (λ (xs : List Event). page_bytes guest page xs ≡ page_bytes guest page past) guest v (executed guest v past) (λ k xs h. h) (executed_keeps guest page v past valid ne)
