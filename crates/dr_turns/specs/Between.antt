-- What holds between turns.
use Rattle.std.specs.Prelude.{◌≡◌, ◌<◌, ℕ, true, false, ◌==◌, max, List, is_some}
use Rattle.dr_types.specs.declared.guest.Guest.{Guest}
use Rattle.dr_types.specs.Scripts.{operation}
use Rattle.dr_types.specs.Validity.{IsValid}
use Rattle.dr_history.specs.declared.event.Event.{Event}
use Rattle.dr_history.specs.Execution.{ops}
use Rattle.dr_history.specs.Rules.{may_end}
use Rattle.dr_history_law.specs.Room.{unpushed}
use Rattle.dr_event_law.specs.May.{MayRun}

-- no write and no throttle is owed, and no buffer is full
pub record AtTurnsEnd (guest : Guest) (past : List Event) : Type 0 where
  pub rests : may_end guest past ≡ true
  pub buffers : (v : ℕ) → unpushed v past < max 1 guest.settings.buffer

-- a vCPU whose turn it is, and that executes
pub record MayTurn (guest : Guest) (past : List Event) (v : ℕ) : Type 0 where
  pub valid : IsValid guest
  pub end : AtTurnsEnd guest past
  pub run : MayRun guest past v
  pub some : is_some (operation guest v (ops v past)) ≡ true

-- no buffer is full, but perhaps the vCPU's own
pub record OthersFew (guest : Guest) (past : List Event) (v : ℕ) : Type 0 where
  pub few : (u : ℕ) → (v == u) ≡ false → unpushed u past < max 1 guest.settings.buffer
