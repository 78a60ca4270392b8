-- The state is of the size of its guest.
use Rattle.std.specs.Prelude.{◌≡◌, ◌<◌, ◌^◌, length}
use Rattle.dr_types.specs.declared.guest.Guest.{Guest}
use Rattle.dr_types.specs.Pages.{page_count}
use Rattle.dr_state.specs.declared.state_fields.State.{State}

-- so many pages and vCPUs as the guest has
pub record IsSized (guest : Guest) (it : State) : Type 0 where
  pub few_pages : page_count guest < 2 ^ 32
  pub few_vcpus : length guest.scripts < 2 ^ 32
  pub protection : it.protection.permissions.pages ≡ page_count guest
  pub memory : length it.memory.pages ≡ page_count guest
