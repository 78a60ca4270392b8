-- What is left where a vCPU leaves with a full ring and memory is refused.
use Rattle.std.specs.Prelude.{◌≡◌, ◌⊎◌, ℕ, List}
use Rattle.dr_types.specs.declared.guest.Guest.{Guest}
use Rattle.dr_history.specs.declared.event.Event.{Event}
use Rattle.dr_schedule_law.specs.Reaps.{Extends, reaped}
use Rattle.dr_schedule_law.specs.Schedule.{exited, reaps_after_full}

-- the vCPU left, and some first events of the reap that follows came
pub record ExitsInReap (guest : Guest) (v : ℕ) (old new : List Event) : Type 0 where
  pub begun : Extends (exited guest v old) new
  pub within : Extends new (reaped guest (reaps_after_full guest v) (exited guest v old))

-- nothing was done, or the vCPU left and a first part of the reap was done
abbrev pub ExitedInPart : Guest → ℕ → List Event → List Event → Type 0
ExitedInPart guest v old new = (new ≡ old) ⊎ ExitsInReap guest v old new
