-- What a log shows.
use Rattle.std.specs.Prelude.{List}
use Rattle.dr_types.specs.declared.guest.Guest.{Guest}
use Rattle.dr_history.specs.declared.event.Event.{Event}
use Rattle.dr_log.specs.Room.{Room}

-- a guest, what has happened to it, the newest event first, and the room that was made for more
pub record LogView : Type 0 where
  pub guest : Guest
  pub past : List Event
  pub room : Room
