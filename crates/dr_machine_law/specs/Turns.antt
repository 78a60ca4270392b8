-- What a vCPU's turn executes.
use Rattle.std.specs.Prelude.{◌≡◌, ℕ, true, List, Option, Some, None}
use Rattle.dr_types.specs.declared.guest.Guest.{Guest}
use Rattle.dr_types.specs.declared.guest.Op.{Op}
use Rattle.dr_types.specs.Scripts.{operation}
use Rattle.dr_history.specs.declared.event.Event.{Event}
use Rattle.dr_history.specs.Execution.{ops}
use Rattle.dr_history.specs.Protection.{started}
use Rattle.dr_event_law.specs.Operations.{op_page}
use Rattle.dr_turns.specs.Turns.{refusal}
use Rattle.dr_machine.specs.Views.{MachineView}

-- in this state nothing refuses the vCPU its turn, so it executes its next op
abbrev pub Executes : Guest → ℕ → MachineView → Type 0
Executes guest v state = refusal guest state.over v state.past ≡ None

-- the page that an op writes, where there is an op
abbrev pub page_of_op : Guest → Option Op → Option ℕ
page_of_op guest None = None
page_of_op guest (Some op) = op_page guest op

-- the page that the vCPU's next op writes, if it writes one
abbrev pub next_page : Guest → ℕ → List Event → Option ℕ
next_page guest v past = page_of_op guest (operation guest v (ops v past))

-- logging has begun, and the vCPU executes an op that writes this page
pub record WritesLogged (guest : Guest) (v page : ℕ) (state : MachineView) : Type 0 where
  pub executes : Executes guest v state
  pub place : next_page guest v state.past ≡ Some page
  pub begun : started state.past ≡ true
