-- The whole state that the events so far leave.
use Rattle.std.specs.Prelude.{◌≡◌, ◌<◌, ◌≤◌, ◌^◌, List, All, length, vec_len}
use Rattle.dr_types.specs.declared.guest.Guest.{Guest}
use Rattle.dr_types.specs.Pages.{page_count}
use Rattle.dr_types.specs.Scripts.{vcpu_count}
use Rattle.dr_types.specs.Validity.{AreSlots}
use Rattle.dr_history.specs.declared.event.Event.{Event}
use Rattle.dr_history.specs.Memory.{memory}
use Rattle.dr_history.specs.Legality.{IsLegalSoFar}
use Rattle.dr_history_law.specs.Limits.{FitsLimits}
use Rattle.dr_script.specs.Places.{AllRun}
use Rattle.dr_state.specs.Rows.{rows_of, IsWithin, HasRoom}
use Rattle.dr_state.specs.Pages.{IsProtection, IsPageWithin, FillFits, ClosingFits}
use Rattle.dr_state.specs.Scripts.{IsRunning}
use Rattle.dr_state.specs.Opened.{AreEntries, EntryFits}
use Rattle.dr_state.specs.Rounds.{rounds_of}
use Rattle.dr_state.specs.Spans.{AreThrottles, SpanFits}
use Rattle.dr_state.specs.Stores.{StoresWithin, StoreFits}
use Rattle.dr_state.specs.declared.state_fields.State.{State}

-- the events are legal so far, and each part of the state is what they leave
pub record IsStateOf (guest : Guest) (past : List Event) (it : State) : Type 0 where
  pub legal : IsLegalSoFar guest past
  pub are_vcpus : it.vcpus ≡ rows_of (vcpu_count guest) past
  pub is_protection : IsProtection past it.protection
  pub protection_vcpus : it.protection.permissions.vcpus ≡ vcpu_count guest
  pub protection_pages : it.protection.permissions.pages ≡ page_count guest
  pub is_running : IsRunning guest past it.running
  pub are_entries : AreEntries (vcpu_count guest) past it.entries
  pub are_rounds : it.rounds ≡ rounds_of guest past
  pub is_memory : it.memory.pages ≡ memory guest past
  pub are_throttles : AreThrottles guest past it.throttles

-- the vCPU and the page that an event names are in the state
pub record IsNamed (it : State) (e : Event) : Type 0 where
  pub vcpus : IsWithin (length it.vcpus) e
  pub readers : IsWithin (vec_len it.running.readers) e
  pub rows : IsWithin (vec_len it.entries.rows) e
  pub protection : IsWithin it.protection.permissions.vcpus e
  pub pages : IsPageWithin it.protection.permissions.pages e
  pub memory : IsPageWithin (length it.memory.pages) e
  pub held : IsWithin (vec_len it.throttles.list) e

-- the guest is within the limits, and no repetition of its scripts is empty
pub record FitsState (guest : Guest) : Type 0 where
  pub pages : page_count guest < 2 ^ 32
  pub vcpus : length guest.scripts < 2 ^ 32
  pub slots : AreSlots guest.slots
  pub some_vcpu : 1 ≤ length guest.scripts
  pub few_vcpus : length guest.scripts ≤ 32
  pub quota : guest.settings.quota ≤ 1000000000
  pub limits : FitsLimits guest
  pub run : All AllRun guest.scripts

-- the state can take the event
pub record CanTake (guest : Guest) (e : Event) (it : State) : Type 0 where
  pub named : IsNamed it e
  pub counts : All HasRoom it.vcpus
  pub entry : EntryFits e it.entries.rows.items
  pub fill : FillFits e it.protection.permissions
  pub closing : ClosingFits e it.protection.closing.1
  pub asks : it.rounds.asks < 2 ^ 63
  pub copies : it.rounds.copies < 2 ^ 63
  pub whole : length it.memory.pages ≡ page_count guest
  pub stores : StoresWithin e
  pub store : StoreFits guest e it.memory
  pub sized : length it.vcpus ≡ vec_len it.throttles.list
  pub spans : SpanFits guest.settings.quota e it.vcpus it.throttles.list.items
