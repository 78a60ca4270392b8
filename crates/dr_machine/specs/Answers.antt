-- What the turns of a machine answer, and what they leave.
use Rattle.std.specs.Prelude.{◌≡◌, ℕ, Bool, true, false, List, ◌∷◌, slice_get, nat_lt}
use Rattle.std.specs.Prelude.{Option, Some, None, IfSome, Result, Ok, IfOk, OnOk, OnErr}
use Rattle.std.specs.List.{list_any}
use Rattle.atomic_table.specs.Seated.{TableId}
use Rattle.dr_types.specs.declared.guest.Guest.{Guest}
use Rattle.dr_types.specs.declared.guest.Why.{Why}
use Rattle.dr_types.specs.declared.memory.Memory.{Memory}
use Rattle.dr_types.specs.Scripts.{operation}
use Rattle.dr_history.specs.declared.event.Event.{Event}
use Rattle.dr_history.specs.declared.event.Event.TheVariants.{Reset, Flushed}
use Rattle.dr_history.specs.Entries.{resets}
use Rattle.dr_history.specs.Execution.{ops}
use Rattle.dr_history.specs.Rules.{deposits_entry}
use Rattle.dr_history.specs.Vcpus.{in_guest}
use Rattle.dr_ring.specs.Seats.{KernelView, NoteView, kernel_note}
use Rattle.dr_ring_set.specs.Seated.{HasAt}
use Rattle.dr_turns.specs.Buffers.{all_pushed}
use Rattle.dr_turns.specs.Due.{some_closing}
use Rattle.dr_turns.specs.Turns.{refusal, op_step, after_op, exit_reason, after_exit}
use Rattle.dr_turns.specs.declared.answers.Turn.{Turn}
use Rattle.dr_turns.specs.declared.answers.Turn.TheVariants as turn
use Rattle.dr_turns_law.specs.Deposits.{next_deposited, HasGap}
use Rattle.dr_machine.specs.Views.{MachineView}

-- A vCPU is to execute: its next op is executed, or the turn tells what refuses it and changes
-- nothing. Nor does it where memory is refused.
pub record OpTurn (guest : Guest) (v : ℕ) (answer : Result Turn Memory)
    (old new : MachineView) : Type 0 where
  pub refused : IfSome (refusal guest old.over v old.past) (λ why. answer ≡ Ok why)
  pub stays : IfSome (refusal guest old.over v old.past) (λ why. new ≡ old)
  pub done : refusal guest old.over v old.past ≡ None
      → IfOk answer (λ t. t ≡ turn.Done (op_step (operation guest v (ops v old.past))))
  pub appended : refusal guest old.over v old.past ≡ None
      → OnOk answer (new.past ≡ after_op guest v old.past)
  pub over : new.over ≡ old.over
  pub err : OnErr answer (new ≡ old)

-- A vCPU is to leave: it leaves after its whole buffer and tells why, or it wasn't in the guest
-- and nothing changes. Nor does it where memory is refused.
pub record ExitTurn (guest : Guest) (v : ℕ) (answer : Result (Option Why) Memory)
    (old new : MachineView) : Type 0 where
  pub outside : in_guest v old.past ≡ false → answer ≡ Ok None
  pub stays : in_guest v old.past ≡ false → new ≡ old
  pub done : in_guest v old.past ≡ true
      → IfOk answer (λ why. why ≡ Some (exit_reason guest v (all_pushed v old.past)))
  pub appended : in_guest v old.past ≡ true
      → OnOk answer (new.past ≡ after_exit guest v old.past)
  pub over : new.over ≡ old.over
  pub err : OnErr answer (new ≡ old)

-- a copy of what the vCPU's kernel seat knows, of the vCPU's ring
pub record IsNoteOf (rings : List TableId) (seats : List KernelView) (v : ℕ)
    (note : NoteView) : Type 0 where
  pub copy : HasAt seats v (λ s. note ≡ kernel_note s)
  pub of_kernel : note.by_kernel ≡ true
  pub named : slice_get rings v ≡ Some note.ring

-- so many of the vCPU's entries are deposited, and these are its first; else one isn't and a later
-- one is
pub record TellsDeposited (v : ℕ) (past : List Event) (answer : Option ℕ) : Type 0 where
  pub some : IfSome answer (λ n. (k : ℕ) → list_any (deposits_entry v k) past ≡ nat_lt k n)
  pub none : answer ≡ None → HasGap v past

-- The vCPU's next entry is reset where it is deposited, and the answer is how many were; else
-- nothing changes. Nor does it where memory is refused.
pub record ResetTurn (v : ℕ) (answer : Result ℕ Memory) (old new : MachineView) : Type 0 where
  pub none : next_deposited v old.past ≡ false → answer ≡ Ok 0
  pub stays : next_deposited v old.past ≡ false → new ≡ old
  pub one : next_deposited v old.past ≡ true → IfOk answer (λ n. n ≡ 1)
  pub appended : next_deposited v old.past ≡ true
      → OnOk answer (new.past ≡ Reset v (resets v old.past) ∷ old.past)
  pub over : new.over ≡ old.over
  pub err : OnErr answer (new ≡ old)

-- All permissions are dropped where a page was reset since the last flush, and the answer is
-- whether one was; else nothing changes. Nor does it where memory is refused.
pub record FlushTurn (guest : Guest) (answer : Result Bool Memory)
    (old new : MachineView) : Type 0 where
  pub none : some_closing guest old.past ≡ false → answer ≡ Ok false
  pub stays : some_closing guest old.past ≡ false → new ≡ old
  pub done : some_closing guest old.past ≡ true → IfOk answer (λ some. some ≡ true)
  pub appended : some_closing guest old.past ≡ true
      → OnOk answer (new.past ≡ Flushed ∷ old.past)
  pub over : new.over ≡ old.over
  pub err : OnErr answer (new ≡ old)
