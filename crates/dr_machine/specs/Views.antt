-- What a machine shows.
use Rattle.std.specs.Prelude.{Bool, List}
use Rattle.dr_types.specs.declared.guest.Guest.{Guest}
use Rattle.dr_history.specs.declared.event.Event.{Event}
use Rattle.dr_ring.specs.Seats.{KernelView}

-- what has happened, the newest event first, the kernel seat of each vCPU, and whether the run was
-- given up
pub record MachineView : Type 0 where
  pub past : List Event
  pub seats : List KernelView
  pub over : Bool

-- what is left of a machine: its guest, what has happened, the newest event first,
-- and the kernel seat of each vCPU
pub record KeptView : Type 0 where
  pub guest : Guest
  pub past : List Event
  pub seats : List KernelView
