-- What ties a log to the rings.
use Rattle.std.specs.Prelude.{◌≡◌, List, All, length}
use Rattle.atomic_table.specs.Seated.{TableId}
use Rattle.dr_types.specs.declared.guest.Guest.{Guest}
use Rattle.dr_types.specs.declared.guest.SlotRow.{SlotRow}
use Rattle.dr_types.specs.Scripts.{vcpu_count}
use Rattle.dr_history.specs.declared.event.Event.{Event}
use Rattle.dr_log.specs.Room.{Room}
use Rattle.dr_log.specs.Views as log
use Rattle.dr_ring.specs.Seats.{KernelView, IsOfSize}
use Rattle.dr_seat_law.specs.Seats.{AreSeats}

-- there is one ring for each vCPU, of the guest's ring size
pub record AreRingsFor (guest : Guest) (rings : List TableId) : Type 0 where
  pub one_each : length rings ≡ vcpu_count guest
  pub sized : All (IsOfSize guest.settings.ring) rings

-- the log is of this guest, with these rings and slots,
-- and each kernel seat has pushed and reset what the events say
pub record AreTied (guest : Guest) (rings : List TableId) (slots : List SlotRow)
    (log : log.LogView) (seats : List KernelView) : Type 0 where
  pub guest_is : log.guest ≡ guest
  pub slots_are : slots ≡ guest.slots
  pub rings_are : AreRingsFor guest rings
  pub seats_are : AreSeats guest log.past seats

-- what a log with its seats shows: what has happened, the newest event first, the kernel seat of
-- each vCPU, and the room that was made for more events
pub record SeatedView : Type 0 where
  pub past : List Event
  pub seats : List KernelView
  pub room : Room
