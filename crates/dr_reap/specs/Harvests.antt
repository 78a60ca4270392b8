-- How far a collector is beside the deposits, and what is harvested for a reap.
use Rattle.std.specs.Prelude.{◌≡◌, ◌<◌, ◌≤◌, ◌-◌, ℕ, true, false, if◌then◌else◌}
use Rattle.std.specs.Prelude.{List, [], ◌∷◌, map, length, All, Option, Some, None, slice_get}
use Rattle.atomic_table.specs.Seated.{TableId}
use Rattle.dr_types.specs.declared.guest.Guest.{Guest}
use Rattle.dr_types.specs.Scripts.{vcpu_count}
use Rattle.dr_history.specs.declared.event.Event.{Event}
use Rattle.dr_history.specs.Entries.{pushes}
use Rattle.dr_ring.specs.Seats.{NoteView}
use Rattle.dr_ring_set.specs.Seated.{IfAt, HasAt}
use Rattle.dr_collector.specs.Collected.{Collected}
use Rattle.dr_collector.specs.Batched.{ring_of_note}
use Rattle.dr_schedule_law.specs.Settled.{Range, range_of, of_vcpu, SettlesPart}
use Rattle.dr_schedule_law.specs.Reaps.{is_reaped, AreFirstDeposited}

-- of each vCPU the deposited entries are those that the collector handed out
pub record AllDeposited (guest : Guest) (past : List Event)
    (collected : List Collected) : Type 0 where
  pub each : (v : ℕ) → v < vcpu_count guest
      → HasAt collected v (λ c. AreFirstDeposited v c.handed past)

abbrev pub handed_out : Option Collected → ℕ
handed_out None = 0
handed_out (Some c) = c.handed

-- how many entries of the vCPU the collector handed out
abbrev pub handed_of : List Collected → ℕ → ℕ
handed_of collected v = handed_out (slice_get collected v)

-- What is harvested of one vCPU, where the collector goes from old to new: a range from the number
-- that it handed out to that it has handed out now, which is the number of pushes or more.
pub record IsPart (v : ℕ) (past : List Event) (old new : List Collected) (r : Range) : Type 0 where
  pub range : r ≡ range_of v (handed_of old v) (handed_of new v - handed_of old v)
  pub onward : handed_of old v ≤ handed_of new v
  pub whole : pushes v past ≤ handed_of new v

-- What is harvested for a reap, where a collector goes from these numbers to those: of each vCPU
-- that is reaped the list has one range, from its number before to that after, which is the number
-- of pushes or more. Of the others it has none, and their numbers stay.
pub record AreHarvested (guest : Guest) (whose : Option ℕ) (before after : ℕ → ℕ) (rs : List Range)
    (past : List Event) : Type 0 where
  pub each : (v : ℕ) → v < vcpu_count guest
      → of_vcpu v rs
      ≡ (if is_reaped whose v then range_of v (before v) (after v - before v) ∷ [] else [])
  pub onward : (v : ℕ) → v < vcpu_count guest → before v ≤ after v
  pub whole : (v : ℕ) → v < vcpu_count guest → is_reaped whose v ≡ true → pushes v past ≤ after v
  pub others : (v : ℕ) → v < vcpu_count guest → is_reaped whose v ≡ false → after v ≡ before v

-- notes of these rings' kernel seats, in their order: each has all that its vCPU pushed
pub record AreNotes (rings : List TableId) (past : List Event)
    (notes : List NoteView) : Type 0 where
  pub of_rings : map ring_of_note notes ≡ rings
  pub of_kernel : All (λ n. n.by_kernel ≡ true) notes
  pub pushed : (v : ℕ) → IfAt notes v (λ n. length n.entries ≡ pushes v past)

-- a settling of these ranges was cut off
unfoldable pub SettlesCut : Guest → List Range → List Event → List Event → Type 0
SettlesCut guest rs old new = SettlesPart guest rs old new
