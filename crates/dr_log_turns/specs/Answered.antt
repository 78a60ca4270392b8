-- What has happened where a round was just answered.
use Rattle.std.specs.Prelude.{◌≡◌, ℕ, false, List, ◌∷◌}
use Rattle.std.specs.List.{list_any}
use Rattle.dr_types.specs.declared.guest.Guest.{Guest}
use Rattle.dr_history.specs.declared.event.Event.{Event}
use Rattle.dr_history.specs.declared.event.Event.TheVariants.{Synced}
use Rattle.dr_history.specs.Dirty.{dirty_pages}
use Rattle.dr_history.specs.Kinds.{is_switched}
use Rattle.dr_turns.specs.Between.{AtTurnsEnd}

-- the last event is the answer of a round, with the pages that were dirty before it
pub record HasAnswered (guest : Guest) (past : List Event) : Type 0 where
  pub before : List Event
  pub round : ℕ
  pub at : ℕ
  pub is : past ≡ Synced round at (dirty_pages guest before) ∷ before
  pub end : AtTurnsEnd guest before
  pub here : list_any is_switched before ≡ false
