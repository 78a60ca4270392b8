-- What contracts see of a ring, of its two seats and of a note.
use Rattle.std.specs.Prelude.{◌≡◌, ℕ, Bool, true, false, List, [], ◌∷◌, ◌++◌, length, ◌+◌, ◌*◌, max}
use Rattle.atomic_table.specs.Seated.{TableId}
use Rattle.dr_types.specs.declared.entry.Entry.{Entry}
use Rattle.dr_types.specs.Words.{first_word}
use Rattle.dr_ring.specs.Ring.{entry_place}
use Rattle.dr_ring.specs.Plays.{IsDirty, HasReset}
use Rattle.dr_ring.specs.declared.view.Role.{Role}
use Rattle.dr_ring.specs.declared.view.Role.TheVariants.{KernelNote, UserNote}

-- a ring: which one it is, and how many places it has
pub record RingView : Type 0 where
  pub id : TableId
  pub size : ℕ

-- the ring of this identity has so many places
abbrev pub IsOfSize : ℕ → TableId → Type 0
IsOfSize size id = id.words ≡ 1 + 2 * size

-- The kernel seat of a ring: all that it pushed, how many of these it has reset, and how many
-- harvests it knows of. `loaded` has each entry word that it loaded, after the index of the word.
pub record KernelView : Type 0 where
  pub ring : TableId
  pub pushed : List Entry
  pub reset : ℕ
  pub known : ℕ
  pub loaded : List (ℕ × ℕ)

-- The user seat of a ring: all that it harvested, and how many pushes it knows of. `loaded` as
-- above.
pub record UserView : Type 0 where
  pub ring : TableId
  pub harvested : List Entry
  pub known : ℕ
  pub loaded : List (ℕ × ℕ)

-- a note: of which ring and which seat it is, and what that seat had pushed or harvested
pub record NoteView : Type 0 where
  pub ring : TableId
  pub by_kernel : Bool
  pub entries : List Entry

-- the two seats of a new ring
abbrev pub new_kernel : TableId → KernelView
new_kernel ring = record { ring = ring; pushed = []; reset = 0; known = 0; loaded = [] }

abbrev pub new_user : TableId → UserView
new_user ring = record { ring = ring; harvested = []; known = 0; loaded = [] }

-- the kernel seat, when it has loaded this entry word at its reset number
abbrev pub kernel_loaded : ℕ → KernelView → ℕ → KernelView
kernel_loaded size s word = record s { loaded = s.loaded ++ (entry_place size s.reset, word) ∷ [] }

-- .. when it has reset this entry there, whose word it found harvested
abbrev pub kernel_reset : ℕ → KernelView → Entry → KernelView
kernel_reset size s e = record s {
  reset = s.reset + 1;
  known = max s.known (s.reset + 1);
  loaded = s.loaded ++ (entry_place size s.reset, first_word e 3) ∷ [];
}

-- .. when the word that it loaded there had no RESET bit
abbrev pub LoadsNoReset : ℕ → KernelView → KernelView → Type 0
LoadsNoReset size old new = (word : ℕ) × (new ≡ kernel_loaded size old word) × (¬ HasReset word)

-- .. when it has learnt what a user seat had harvested
abbrev pub kernel_learnt : KernelView → List Entry → KernelView
kernel_learnt s entries = record s { known = max s.known (length entries) }

-- the user seat, when it has loaded this entry word at its harvest number
abbrev pub user_loaded : ℕ → UserView → ℕ → UserView
user_loaded size s word =
    record s { loaded = s.loaded ++ (entry_place size (length s.harvested), word) ∷ [] }

-- .. when it has harvested this entry there, whose word it found dirty
abbrev pub user_harvested : ℕ → UserView → Entry → UserView
user_harvested size s e = record s {
  harvested = s.harvested ++ e ∷ [];
  loaded = s.loaded ++ (entry_place size (length s.harvested), first_word e 1) ∷ [];
}

-- .. when the word that it loaded there was not dirty
abbrev pub LoadsNoDirty : ℕ → UserView → UserView → Type 0
LoadsNoDirty size old new = (word : ℕ) × (new ≡ user_loaded size old word) × (¬ IsDirty word)

-- .. when it has learnt what a kernel seat had pushed
abbrev pub user_learnt : UserView → List Entry → UserView
user_learnt s entries = record s { known = max s.known (length entries) }

-- the note that is cut from a kernel seat, and from a user seat
abbrev pub kernel_note : KernelView → NoteView
kernel_note s = record { ring = s.ring; by_kernel = true; entries = s.pushed }

abbrev pub user_note : UserView → NoteView
user_note s = record { ring = s.ring; by_kernel = false; entries = s.harvested }

-- which seat a note is of, by its role, and the role of such a note
abbrev pub is_kernel_note : Role → Bool
is_kernel_note KernelNote = true
is_kernel_note _ = false

abbrev pub note_role : Bool → Role
note_role true = KernelNote
note_role false = UserNote
