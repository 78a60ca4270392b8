-- A dirty ring as plain data: what was pushed, harvested and reset, what the words then are, and
-- what each seat knows.
use Rattle.std.specs.Prelude.{◌≡◌, ◌≢◌, ℕ, ◌+◌, ◌*◌, ◌%◌, ◌^◌, ◌<◌, ◌≤◌, List, [], length, max}
use Rattle.std.specs.Prelude.{slice_index, slice_get, Some}
use mathlib.Core.Option.{some}
use mathlib.Core.List.{IsPrefix}
use lib.ListN.{get_elem?}
use Rattle.atomic_table.specs.Table.{State}
use Rattle.dr_types.specs.declared.entry.Entry.{Entry}
use Rattle.dr_types.specs.Words.{first_word}
use Rattle.dr_ring.specs.declared.view.View.{View}
use Rattle.dr_ring.specs.declared.view.Role.{Role}
use Rattle.dr_ring.specs.declared.view.Role.TheVariants.{Both, Kernel, Pushing, Resetting, User}
use Rattle.dr_ring.specs.declared.view.Role.TheVariants.{Dirty, Copied, KernelNote, UserNote, Spent}

-- the index of the entry word of entry number k, in a ring of this size
abbrev pub entry_place : ℕ → ℕ → ℕ
entry_place size k = 1 + 2 * (k % size)

-- .. and that of its offset word
abbrev pub offset_place : ℕ → ℕ → ℕ
offset_place size k = 2 + 2 * (k % size)

module _ (size : ℕ) (words : List ℕ) where
  abbrev pub entry_word : ℕ → ℕ
  entry_word k = slice_index words (entry_place size k)

  abbrev pub offset_word : ℕ → ℕ
  offset_word k = slice_index words (offset_place size k)

-- Which words a ring of this size has where these entries were pushed and harvested, and so many
-- reset.
pub record IsRing (size : ℕ) (words : List ℕ) (pushed harvested : List Entry)
    (reset : ℕ) : Type 0 where
  pub some_size : 0 < size
  pub wide : length words ≡ 1 + 2 * size
  -- the word that splits and joins load
  pub spare : slice_index words 0 ≡ 0
  -- the numbers and the lists
  pub in_order : IsPrefix harvested pushed
  pub reset_after : reset ≤ length harvested
  pub room : length pushed ≤ reset + size
  pub counted : length pushed < 2 ^ 64
  -- the entry words: of entries that are pushed and not harvested, of those harvested and not
  -- reset, and all others
  pub dirty : (k : ℕ) (e : Entry) → length harvested ≤ k → slice_get pushed k ≡ Some e
      → entry_word size words k ≡ first_word e 1
  pub done : (k : ℕ) (e : Entry) → reset ≤ k → k < length harvested → slice_get pushed k ≡ Some e
      → entry_word size words k ≡ first_word e 3
  pub other : (place : ℕ) → place < size
      → ((k : ℕ) → reset ≤ k → k < length pushed → k % size ≢ place)
      → slice_index words (1 + 2 * place) ≡ 0
  -- the offset words of entries that are pushed and not reset
  pub offsets : (k : ℕ) (e : Entry) → reset ≤ k → slice_get pushed k ≡ Some e
      → offset_word size words k ≡ e.offset

-- What seat number j knows, where `kernel` and `user` are the numbers of the ring's two seats.
module _ (size : ℕ) (words : List ℕ) (pushed harvested : List Entry) (reset kernel user : ℕ)
    (j : ℕ) (v : View) where
  -- all pushes, and of at most so many harvests as there were
  abbrev pub IsKernel : Type 0
  IsKernel =
      (j ≡ kernel) × (v.entries ≡ pushed) × (v.reset ≡ reset) × (v.known ≤ length harvested)
      × IsPrefix v.told harvested

  -- all harvests, and of at most so many pushes as there were
  abbrev pub IsUser : Type 0
  IsUser = (j ≡ user) × (v.entries ≡ harvested) × (v.known ≤ length pushed) × IsPrefix v.told pushed

  -- nothing was pushed yet, and the seat is both
  abbrev pub IsFirst : Type 0
  IsFirst =
      (j ≡ kernel) × (j ≡ user) × (v.entries ≡ []) × (pushed ≡ []) × (harvested ≡ [])
      × (v.reset ≡ 0) × (reset ≡ 0)
      × (v.known ≡ 0) × (v.told ≡ [])

  abbrev pub Knows : Role → Type 0
  Knows Both = IsFirst
  Knows Kernel = IsKernel
  Knows (Pushing offset) =
      IsKernel × (length pushed < reset + size) × (offset_word size words (length pushed) ≡ offset)
  Knows Resetting = IsKernel × (reset < length harvested)
  Knows User = IsUser
  Knows (Dirty slot) =
      IsUser × ((e : Entry) × (slice_get pushed (length harvested) ≡ Some e) × (slot ≡ e.slot))
  Knows (Copied e) = IsUser × (slice_get pushed (length harvested) ≡ Some e)
  Knows KernelNote = IsPrefix v.entries pushed × (v.known ≤ length harvested)
  Knows UserNote = IsPrefix v.entries harvested × (v.known ≤ length pushed)
  Knows Spent = Unit {0}

-- The rule of a ring's table: some entries were pushed, harvested and reset, the words are theirs,
-- and each seat knows what its role says.
pub record Holds (size : ℕ) (s : State ℕ View) : Type 0 where
  pub pushed : List Entry
  pub harvested : List Entry
  pub reset : ℕ
  pub kernel : ℕ
  pub user : ℕ
  pub ring : IsRing size s.words pushed harvested reset
  pub each_seat : (j : ℕ) (v : View) → get_elem? s.views j ≡ some v
      → Knows size s.words pushed harvested reset kernel user j v v.role

-- the view of the only seat of a new ring
abbrev pub opening_view : View
opening_view = record { role = Both; entries = []; reset = 0; known = 0; loaded = []; told = [] }

-- the view of a note that was learnt
abbrev pub spent_view : View
spent_view = record { role = Spent; entries = []; reset = 0; known = 0; loaded = []; told = [] }

-- the view of a note that is cut from a seat
abbrev pub note_view : Role → View → View
note_view role v = record v { role = role }

-- the view of a seat with view v that has learnt a note with view w
abbrev pub learnt : View → View → View
learnt v w = record v { told = w.entries; known = max v.known (length w.entries) }
