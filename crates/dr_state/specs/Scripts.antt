-- What is kept of the scripts, so that nobody reads them from the front.
use Rattle.std.specs.Prelude.{◌≡◌, ℕ, List, drop, slice_get}
use Rattle.dr_types.specs.declared.guest.Op.{Op}
use Rattle.dr_types.specs.declared.guest.Guest.{Guest}
use Rattle.dr_types.specs.Scripts.{script_of, vcpu_count}
use Rattle.dr_history.specs.declared.event.Event.{Event}
use Rattle.dr_history.specs.declared.event.Event.TheVariants.{Read, Write, Paint, Local, Halted}
use Rattle.dr_history.specs.Execution.{ops, acc}
use Rattle.dr_state.specs.Rows.{table}
use Rattle.dr_state.specs.declared.script_fields.Running.{Running}

-- what the vCPU has still to execute
abbrev pub rest_of : Guest → List Event → ℕ → List Op
rest_of guest past v = drop (ops v past) (script_of (slice_get guest.scripts v))

-- what each vCPU has still to execute, and its register
pub record AreRunning (guest : Guest) (past : List Event)
    (rests : List (List Op)) (registers : List ℕ) : Type 0 where
  pub are_rests : rests ≡ table (rest_of guest past) (vcpu_count guest)
  pub are_registers : registers ≡ table (λ v. acc guest v past) (vcpu_count guest)

-- what is kept is what the events leave of the scripts
abbrev pub IsRunning : Guest → List Event → Running → Type 0
IsRunning guest past it = AreRunning guest past it.readers.items it.registers.items

-- the event is an operation of the vCPU that loads this
abbrev pub IsOpLoading : ℕ → ℕ → Event → Type 0
IsOpLoading v loaded (Read w i space address value) = (w ≡ v) × (loaded ≡ value)
IsOpLoading v loaded (Write w i space address len value) = (w ≡ v) × (loaded ≡ 0)
IsOpLoading v loaded (Paint w i page byte) = (w ≡ v) × (loaded ≡ 0)
IsOpLoading v loaded (Local w i) = (w ≡ v) × (loaded ≡ 0)
IsOpLoading v loaded (Halted w i) = (w ≡ v) × (loaded ≡ 0)
IsOpLoading v loaded e = ⊥

-- the event is no operation
abbrev pub IsNoOp : Event → Type 0
IsNoOp (Read w i space address value) = ⊥
IsNoOp (Write w i space address len value) = ⊥
IsNoOp (Paint w i page byte) = ⊥
IsNoOp (Local w i) = ⊥
IsNoOp (Halted w i) = ⊥
IsNoOp e = Unit {0}
