-- When the rounds of a migration are spent, in the words of its history alone.
use Rattle.std.specs.Prelude.{◌≡◌, ◌<◌, ◌≤◌, ℕ, List, ◌∷◌, ◌++◌, length, Contains}
use Rattle.dr_types.specs.declared.guest.Guest.{Guest}
use Rattle.dr_history.specs.declared.event.Event.{Event}
use Rattle.dr_history.specs.declared.event.Event.TheVariants.{Synced, Copied}

-- each of these pages is copied for the round in these events
abbrev pub CopiesEach : ℕ → List ℕ → List Event → Type 0
CopiesEach r pages later = (page : ℕ) → Contains pages page → Contains later (Copied r page)

-- the round was answered with more pages than the threshold, and each of them was copied since
pub record IsLargeRound (guest : Guest) (past : List Event) (r : ℕ) : Type 0 where
  pub later : List Event
  pub at : ℕ
  pub pages : List ℕ
  pub earlier : List Event
  pub answered : past ≡ later ++ Synced r at pages ∷ earlier
  pub large : guest.settings.threshold < length pages
  pub copied : CopiesEach r pages later

-- each round that the guest may have was answered with more pages than the threshold, and all of
-- these were copied for it
pub record AreSpent (guest : Guest) (past : List Event) : Type 0 where
  pub rounds : (r : ℕ) → 1 ≤ r → r ≤ guest.settings.rounds → IsLargeRound guest past r
