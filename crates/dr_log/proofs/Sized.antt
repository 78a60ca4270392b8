-- The state is of the size of its guest.
use Rattle.dr_types.specs.declared.guest.Guest.{Guest}
use Rattle.std.proofs.Common.{List}
use Rattle.dr_history.specs.declared.event.Event.{Event}
use Rattle.dr_state.specs.Whole.{IsStateOf, FitsState}
use Rattle.dr_state.specs.declared.state_fields.State.{State}
use Rattle.dr_state.proofs.Fits.{memory_sized}
use Rattle.dr_log.specs.Sizes.{IsSized}

pub sized : (guest : Guest) (past : List Event) (it : State) → FitsState guest → IsStateOf guest past it → IsSized guest it
sized guest past it can h = record {
  few_pages = can.pages;
  few_vcpus = can.vcpus;
  protection = h.protection_pages;
  memory = memory_sized guest past it h;
}
