-- In which order entries are opened, pushed, deposited and reset.
use Rattle.std.specs.Prelude.{◌≡◌, ◌≤◌, ℕ, Bool, true, false, ◌+◌, ◌==◌, if◌then◌else◌, List, []}
use Rattle.std.specs.Prelude.{◌∷◌}
use Rattle.std.specs.List.{list_any}
use Rattle.dr_history.specs.declared.event.Event.{Event}
use Rattle.dr_history.specs.declared.event.Event.TheVariants.{Write, Paint}
use Rattle.dr_history.specs.Lookback.{count}
use Rattle.dr_history.specs.Kinds.{is_opened_of}
use Rattle.dr_history.specs.Entries.{opens, pushes, resets}
use Rattle.dr_history.specs.Rules.{deposits_entry}

-- a write of the vCPU
abbrev pub is_write_of : ℕ → Event → Bool
is_write_of v (Write w i space address len value) = w == v
is_write_of v (Paint w i page byte) = w == v
is_write_of v e = false

abbrev pub writes : ℕ → List Event → ℕ
writes v past = count (is_write_of v) past

-- the last event is an Opened of the vCPU
abbrev pub last_opens_for : ℕ → List Event → Bool
last_opens_for v [] = false
last_opens_for v (e ∷ earlier) = is_opened_of v e

-- no more is pushed than opened, and no more opened than written, but for one write that is owed
pub record InOrder (v : ℕ) (past : List Event) : Type 0 where
  pub reset : resets v past ≤ pushes v past
  pub pushed : pushes v past ≤ opens v past
  pub opened : opens v past ≤ writes v past + (if last_opens_for v past then 1 else 0)

-- the entry was deposited, so it was harvested
abbrev pub WasHarvested : ℕ → ℕ → List Event → Type 0
WasHarvested v k earlier = list_any (deposits_entry v k) earlier ≡ true
