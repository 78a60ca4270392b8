-- The room of a log is that of its state.
use Rattle.std.proofs.Common.{◌≡◌, ◌≤◌, ◌<◌, ℕ, zero, suc, List, [], ◌∷◌, length, get_or, refl, arith}
use Rattle.dr_types.specs.declared.guest.Guest.{Guest}
use Rattle.dr_history.specs.declared.event.Event.{Event}
use Rattle.dr_history.specs.declared.event.Event.TheVariants.{Write, Paint, Opened, Reset, Synced}
use Rattle.dr_history.specs.Rounds.{answered_pages}
use Rattle.dr_memory.specs.Stores.{Store}
use Rattle.dr_state.specs.declared.entry_fields.OpenedEntry.{OpenedEntry}
use Rattle.dr_state.specs.Opened.{HasRoomAt, OpeningFits}
use Rattle.dr_state.specs.Pages.{ClosingFits}
use Rattle.dr_state.specs.Stores.{StoreFits}
use Rattle.dr_log.specs.Room.{HasEntry, HasRoomFor, entry_rooms, room_of}

-- a row with room, as its number says
pub row_has_entry : (events v closing : ℕ) (rows : List (List OpenedEntry × ℕ)) (store : Store) → HasRoomAt v rows → v < length rows → HasEntry v (room_of events rows closing store)
row_has_entry events v closing [] store h lt = absurd (omega arith)
row_has_entry events zero closing (row ∷ rows) store h lt = h row
row_has_entry events (suc v) closing (row ∷ rows) store h lt = row_has_entry events v closing rows store h (omega arith)

-- and back
pub row_at : (v : ℕ) (rows : List (List OpenedEntry × ℕ)) → 1 ≤ get_or (entry_rooms rows) v 0 → HasRoomAt v rows
row_at v [] h = absurd (omega arith)
row_at zero (row ∷ rows) h = λ d. h
row_at (suc v) (row ∷ rows) h = row_at v rows h

pub opening_fits : (guest : Guest) (e : Event) (events closing : ℕ) (rows : List (List OpenedEntry × ℕ)) (store : Store) → HasRoomFor guest e (room_of events rows closing store) → OpeningFits e rows
opening_fits guest (Opened v k page) events closing rows store h = row_at v rows h
opening_fits guest e events closing rows store h = tt

pub closing_fits : (guest : Guest) (e : Event) (events closing : ℕ) (rows : List (List OpenedEntry × ℕ)) (store : Store) → HasRoomFor guest e (room_of events rows closing store) → ClosingFits e closing
closing_fits guest (Reset v k) events closing rows store h = h
closing_fits guest e events closing rows store h = tt

pub store_fits : (guest : Guest) (e : Event) (events closing : ℕ) (rows : List (List OpenedEntry × ℕ)) (store : Store) → HasRoomFor guest e (room_of events rows closing store) → StoreFits guest e store
store_fits guest (Write v i space address len value) events closing rows store h = h
store_fits guest (Paint v i page byte) events closing rows store h = h
store_fits guest e events closing rows store h = tt

pub no_pages : (guest : Guest) (e : Event) (events closing : ℕ) (rows : List (List OpenedEntry × ℕ)) (store : Store) → HasRoomFor guest e (room_of events rows closing store) → [] ≡ answered_pages e
no_pages guest (Synced r at pages) events closing rows store h = absurd h
no_pages guest e events closing rows store h = refl
