-- The names in an event are those of the guest.
use Rattle.dr_types.specs.declared.guest.Guest.{Guest}
use Rattle.dr_types.specs.Pages.{page_count}
use Rattle.dr_types.specs.Scripts.{vcpu_count}
use Rattle.dr_history.specs.declared.event.Event.{Event}
use Rattle.dr_state.specs.Rows.{IsWithin}
use Rattle.dr_state.specs.Pages.{IsPageWithin}

-- the vCPU and the page that an event names are of the guest
pub record IsNamed (guest : Guest) (e : Event) : Type 0 where
  pub vcpu : IsWithin (vcpu_count guest) e
  pub page : IsPageWithin (page_count guest) e
