-- The size of the last answer.
use Rattle.std.specs.Prelude.{ℕ, List, length, Option, Some, None}
use Rattle.dr_history.specs.declared.event.Event.{Event}
use Rattle.dr_history.specs.Rounds.{answered_pages}

-- how many pages the last answer has, where there is one
abbrev pub answered_count : Option (Event × List Event) → Option ℕ
answered_count None = None
answered_count (Some synced) = Some (length (answered_pages synced.0))
