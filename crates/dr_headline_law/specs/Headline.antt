-- What a history that has switched over promises.
use Rattle.std.specs.Prelude.{◌≡◌, ℕ, ◌<◌, true, false, List, ◌∷◌, ◌++◌, Some}
use Rattle.std.specs.List.{list_any}
use Rattle.dr_types.specs.declared.guest.Guest.{Guest}
use Rattle.dr_types.specs.Scripts.{vcpu_count}
use Rattle.dr_types.specs.Validity.{IsValid}
use Rattle.dr_history.specs.declared.event.Event.{Event}
use Rattle.dr_history.specs.declared.event.Event.TheVariants.{Reset, Asked, Synced, Stopped}
use Rattle.dr_history.specs.Kinds.{copies_page, is_switched}
use Rattle.dr_history.specs.Legality.{IsLegalSoFar}
use Rattle.dr_history.specs.Memory.{memory, destination}
use Rattle.dr_history.specs.Dirty.{dirty_pages}
use Rattle.dr_history.specs.Rules.{vcpu_of_op, deposits_entry}
use Rattle.dr_history.specs.Stream.{stream_of, sent_records}
use Rattle.dr_history.specs.Unsent.{writes_to}
use Rattle.dr_history_law.specs.Answer.{has_page}
use Rattle.dr_history_law.specs.Execution.{ExecutesInOrder, Performs}
use Rattle.dr_stream_law.specs.Loading.{IsStream}

-- each operation that the vCPU executed is the one of its number in its script, with the address,
-- bytes, register and value that belong there; each stands once, in order
pub record ExecutesScript (guest : Guest) (past : List Event) (v : ℕ) : Type 0 where
  pub once : ExecutesInOrder v past
  pub each : (later : List Event) (e : Event) (earlier : List Event) → past ≡ later ++ e ∷ earlier
      → vcpu_of_op e ≡ Some v → Performs guest earlier v e

-- an entry is reset, and with it its page protected again, only after it was harvested
abbrev pub ProtectsHarvested : List Event → Type 0
ProtectsHarvested past =
    (later : List Event) (v k : ℕ) (earlier : List Event) → past ≡ later ++ Reset v k ∷ earlier
    → list_any (deposits_entry v k) earlier ≡ true

-- each answer has exactly the pages that are dirty there
abbrev pub AnswersDirty : Guest → List Event → Type 0
AnswersDirty guest past =
    (later : List Event) (r at : ℕ) (pages : List ℕ) (earlier : List Event)
    → past ≡ later ++ Synced r at pages ∷ earlier → pages ≡ dirty_pages guest earlier

-- a page that was written before the Asked of an answer, and not copied between the write and the
-- answer, is in the answer
abbrev pub CoversWritten : Guest → List Event → Type 0
CoversWritten guest past =
    (after : List Event) (r at : ℕ) (pages : List ℕ) (later between : List Event) (write : Event)
    (earlier : List Event) (page : ℕ)
    → past ≡ after ++ Synced r at pages ∷ (later ++ Asked r ∷ (between ++ write ∷ earlier))
    → writes_to guest page write ≡ true
    → list_any (copies_page page) between ≡ false
    → list_any (copies_page page) later ≡ false
    → has_page pages page ≡ true

-- the guest was stopped, and memory is what it was there
pub record KeepsStoppedMemory (guest : Guest) (past : List Event) : Type 0 where
  pub later : List Event
  pub earlier : List Event
  pub stop : past ≡ later ++ Stopped ∷ earlier
  pub stays : memory guest past ≡ memory guest earlier

-- the promises that each legal history keeps, wherever it ends
pub record KeepsPromises (guest : Guest) (past : List Event) : Type 0 where
  pub executes : (v : ℕ) → v < vcpu_count guest → ExecutesScript guest past v
  pub protects : ProtectsHarvested past
  pub answers : AnswersDirty guest past
  pub covers : CoversWritten guest past

-- and those that one keeps which has switched over
pub record KeepsHeadline (guest : Guest) (past : List Event) : Type 0 where
  pub promises : KeepsPromises guest past
  pub stopped : KeepsStoppedMemory guest past
  pub same : destination guest past ≡ memory guest past
  pub loads : IsStream (stream_of guest past) (memory guest past) (sent_records guest past)

-- each legal history keeps the promises, whatever guest it is of and wherever it ends
abbrev pub LegalKeepsPromises : Type 0
LegalKeepsPromises =
    (guest : Guest) (past : List Event) → IsLegalSoFar guest past → KeepsPromises guest past

-- each legal history of a valid guest that has a Switched keeps the headline
abbrev pub SwitchedKeepsHeadline : Type 0
SwitchedKeepsHeadline =
    (guest : Guest) (past : List Event) → IsValid guest → IsLegalSoFar guest past
    → list_any is_switched past ≡ true → KeepsHeadline guest past
