-- The times that events name.
use Rattle.std.specs.Prelude.{ℕ, List, [], ◌∷◌}
use Rattle.dr_history.specs.declared.event.Event.{Event}
use Rattle.dr_history.specs.declared.event.Event.TheVariants.{Start, Synced}

-- the times in the events, the newest first
abbrev pub times : List Event → List ℕ
times [] = []
times (Start at ∷ earlier) = at ∷ times earlier
times (Synced r at pages ∷ earlier) = at ∷ times earlier
times (e ∷ earlier) = times earlier
