-- What advances are, and what they leave alone.
use Rattle.std.specs.Prelude.{◌≡◌, ◌<◌, ℕ, true, false, List}
use Rattle.std.specs.List.{list_any}
use Rattle.dr_types.specs.declared.guest.Guest.{Guest}
use Rattle.dr_types.specs.Scripts.{vcpu_count}
use Rattle.dr_history.specs.declared.event.Event.{Event}
use Rattle.dr_history.specs.declared.event.Event.TheVariants.{Start, Asked, Synced, Copied}
use Rattle.dr_history.specs.declared.event.Event.TheVariants.{Throttled, Stopped, Switched}
use Rattle.dr_history.specs.Lookback.{before}
use Rattle.dr_history.specs.Kinds.{is_asked, resets_entry}
use Rattle.dr_history.specs.Entries.{opens, pushes, resets}
use Rattle.dr_history.specs.Rules.{deposits_entry}

-- the event is one that the migrator appends
abbrev pub IsAdvance : Event → Type 0
IsAdvance (Start at) = Unit {0}
IsAdvance (Asked r) = Unit {0}
IsAdvance (Synced r at pages) = Unit {0}
IsAdvance (Copied r page) = Unit {0}
IsAdvance (Throttled v us) = Unit {0}
IsAdvance Stopped = Unit {0}
IsAdvance Switched = Unit {0}
IsAdvance e = ⊥

-- from these events to those no entry is opened, pushed, deposited or reset
pub record SameEntries (old new : List Event) : Type 0 where
  pub opened : (v : ℕ) → opens v new ≡ opens v old
  pub pushed : (v : ℕ) → pushes v new ≡ pushes v old
  pub deposited : (v k : ℕ) → list_any (deposits_entry v k) new ≡ list_any (deposits_entry v k) old
  pub reset : (v : ℕ) → resets v new ≡ resets v old

-- the vCPU's entry with the number of its resets is the least one, by the vCPU and then by the
-- number, that was opened before the last Asked and isn't reset
pub record IsLeastUnreset (guest : Guest) (past : List Event) (v : ℕ) : Type 0 where
  pub vcpu : v < vcpu_count guest
  pub opened : resets v past < opens v (before is_asked past)
  pub missing : list_any (resets_entry v (resets v past)) past ≡ false
  pub below : (k : ℕ) → k < resets v past → list_any (resets_entry v k) past ≡ true
  pub lesser : (w k : ℕ) → w < v → k < opens w (before is_asked past)
      → list_any (resets_entry w k) past ≡ true
