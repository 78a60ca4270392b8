-- What can be taken without memory.
use Rattle.std.specs.Prelude.{◌≡◌, ◌≤◌, ℕ, Bool, true, false, List, map, slice_index_or}
use Rattle.std.specs.Prelude.{IfSome}
use Rattle.dr_types.specs.declared.guest.Guest.{Guest}
use Rattle.dr_types.specs.Pages.{page_of_address}
use Rattle.dr_history.specs.declared.event.Event.{Event}
use Rattle.dr_history.specs.declared.event.Event.TheVariants.{Write, Paint, Opened, Reset, Synced}
use Rattle.dr_memory.specs.Stores.{Store}
use Rattle.dr_state.specs.declared.entry_fields.OpenedEntry.{OpenedEntry}

-- so many events, so many more entries of each vCPU, resets of so many entries, and writes to these
-- pages
pub record Room : Type 0 where
  pub events : ℕ
  pub entries : List ℕ
  pub closing : ℕ
  pub pages : List Bool

-- a vCPU can open one more entry
abbrev pub HasEntry : ℕ → Room → Type 0
HasEntry v room = 1 ≤ slice_index_or room.entries v 0

-- the page can be written
abbrev pub has_page : ℕ → Room → Bool
has_page page room = slice_index_or room.pages page false

-- the event takes no more than this room: an Opened an entry of its vCPU, a Reset one that closes a
-- page, a write its page; the pages of a Synced are handed in with it
abbrev pub HasRoomFor : Guest → Event → Room → Type 0
HasRoomFor guest (Opened v k page) room = HasEntry v room
HasRoomFor guest (Write v i space address len value) room =
    IfSome (page_of_address guest space address) (λ page. has_page page room ≡ true)
HasRoomFor guest (Paint v i page byte) room = has_page page room ≡ true
HasRoomFor guest (Reset v k) room = 1 ≤ room.closing
HasRoomFor guest (Synced r at pages) room = ⊥
HasRoomFor guest e room = Unit {0}

-- how many more entries each row has room for
abbrev pub entry_rooms : List (List OpenedEntry × ℕ) → List ℕ
entry_rooms rows = map (λ row. row.1) rows

-- the room of a history, of the entries, of the closing pages and of memory
abbrev pub room_of : ℕ → List (List OpenedEntry × ℕ) → ℕ → Store → Room
room_of events rows closing store = record {
  events = events;
  entries = entry_rooms rows;
  closing = closing;
  pages = store.rooms;
}
