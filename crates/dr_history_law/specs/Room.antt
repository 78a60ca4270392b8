-- How many entries of a ring are used or about to be.
use Rattle.std.specs.Prelude.{◌≡◌, ◌<◌, ◌≤◌, ℕ, false, ◌+◌, ◌-◌, max, List}
use Rattle.dr_types.specs.declared.guest.Guest.{Guest}
use Rattle.dr_types.specs.Pages.{soft_limit}
use Rattle.dr_history.specs.declared.event.Event.{Event}
use Rattle.dr_history.specs.Entries.{opens, pushes, used}
use Rattle.dr_history_law.specs.Order.{last_opens_for}

-- how many opened entries lack their Pushed
abbrev pub unpushed : ℕ → List Event → ℕ
unpushed v past = opens v past - pushes v past

-- how many entries are used or unpushed at most, where no write is owed
abbrev pub room : Guest → ℕ
room guest = soft_limit guest - 1 + max 1 guest.settings.buffer

-- but directly after an Opened, the entries used and those unpushed are no more than the room
abbrev pub StaysInRoom : Guest → List Event → Type 0
StaysInRoom guest past =
    (v : ℕ) → last_opens_for v past ≡ false → used v past + unpushed v past ≤ room guest

-- the reserve and the buffer fit into the ring
pub record FitsRing (guest : Guest) : Type 0 where
  pub reserve : 1 ≤ guest.settings.reserve
  pub ring : guest.settings.reserve + guest.settings.buffer < guest.settings.ring

-- the room is no more than the ring without its reserve
abbrev pub RoomInRing : Guest → Type 0
RoomInRing guest = room guest + guest.settings.reserve ≤ guest.settings.ring

-- an entry that was opened finds room in the ring
abbrev pub FindsRoom : Guest → List Event → Type 0
FindsRoom guest past = (v : ℕ) → pushes v past < opens v past → used v past < guest.settings.ring
