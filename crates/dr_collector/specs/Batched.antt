-- What a harvest makes of one vCPU's seat, and the batch that goes out.
use Rattle.std.specs.Prelude.{◌≡◌, ℕ, ◌+◌, ◌<◌, ◌≤◌, ◌⊎◌, List, length, drop, slice_get, Option}
use Rattle.std.specs.Prelude.{Some, IfSome}
use Rattle.atomic_table.specs.Seated.{TableId}
use mathlib.Core.List.{IsPrefix}
use Rattle.dr_types.specs.declared.entry.Entry.{Entry}
use Rattle.dr_ring.specs.Seats.{NoteView, user_note}
use Rattle.dr_ring_set.specs.Seated.{IfAt, HasAt}
use Rattle.dr_ring_set.specs.Batches.{BatchView}
use Rattle.dr_collector.specs.Collected.{Collected, learnt, Harvests, Stops}

-- a batch of these parts
abbrev pub as_batch : ℕ → ℕ → List Entry → NoteView → BatchView
as_batch vcpu first entries note =
    record { vcpu = vcpu; first = first; entries = entries; note = note }

-- the ring that a note is of
abbrev pub ring_of_note : NoteView → TableId
ring_of_note n = n.ring

-- The batch of one vCPU that a harvest hands out, in a ring of this size, and how what is collected
-- goes from c to d. `seen` is the kernel seat's note, where one was given.
pub record IsBatchOf (size v : ℕ) (seen : Option NoteView) (c d : Collected)
    (b : BatchView) : Type 0 where
  pub vcpu : b.vcpu ≡ v
  pub first : b.first ≡ c.handed
  pub entries : b.entries ≡ drop b.first d.seat.harvested
  pub note : b.note ≡ user_note d.seat
  pub handed : d.handed ≡ length d.seat.harvested
  pub kept : IsPrefix c.seat.harvested d.seat.harvested
  pub most : length b.entries ≤ size
  pub few : length b.entries < size → Stops size (learnt seen c.seat) d.seat
  pub full : length b.entries ≡ size → Harvests size (learnt seen c.seat) d.seat
  pub told : IfSome seen (λ n. (length n.entries ≤ b.first + length b.entries)
      ⊎ (length b.entries ≡ size))

-- what a harvest that is refused memory leaves of one vCPU: all that was harvested is kept, and
-- nothing went out
pub record IsKept (size : ℕ) (seen : Option NoteView) (c d : Collected) : Type 0 where
  pub handed : d.handed ≡ c.handed
  pub kept : IsPrefix c.seat.harvested d.seat.harvested
  pub harvests : Harvests size (learnt seen c.seat) d.seat

-- What harvests of all vCPUs leave that are refused memory at one of them: before it batches were
-- made, and are lost. At it nothing went out, and all that was harvested is kept. After it nothing
-- was done.
pub record IsCutOff (size : ℕ) (seen : List NoteView) (old new : List Collected) : Type 0 where
  pub refused : ℕ
  pub lost : (v : ℕ) → v < refused
      → HasAt seen v (λ n. HasAt old v (λ c. HasAt new v (λ d. (b : BatchView)
      × IsBatchOf size v (Some n) c d b)))
  pub kept : IfAt old refused (λ c. HasAt new refused (λ d. (d ≡ c)
      ⊎ HasAt seen refused (λ n. IsKept size (Some n) c d)))
  pub rest : (v : ℕ) → refused < v → slice_get new v ≡ slice_get old v
