-- Which times a block adds.
use Rattle.std.specs.Prelude.{◌≡◌, ℕ, ◌⊎◌, List, ◌∷◌}
use Rattle.dr_history.specs.declared.event.Event.{Event}
use Rattle.dr_history.specs.Times.{times}

-- the events since name no time, or this one alone
abbrev pub MayAddTime : ℕ → List Event → List Event → Type 0
MayAddTime now old new = (times new ≡ times old) ⊎ (times new ≡ now ∷ times old)
