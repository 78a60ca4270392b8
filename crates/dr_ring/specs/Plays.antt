-- What each step on the words of a ring tells the seat that makes it.
use mathlib.Core.List.{IsPrefix}
use Rattle.std.specs.Prelude.{◌⊎◌, ◌≡◌, ◌≢◌, ℕ, ◌+◌, ◌/◌, ◌^◌, ◌<◌, ◌≤◌, [], ◌∷◌, ◌++◌, length, max}
use Rattle.std.specs.Prelude.{bit_and, slice_get, Some}
use Rattle.atomic_table.specs.Table.{Me, Step}
use Rattle.atomic_table.specs.declared.shared.Seat.{Seat}
use Rattle.dr_types.specs.declared.entry.Entry.{Entry}
use Rattle.dr_types.specs.Words.{first_word, flags_in}
use Rattle.dr_ring.specs.declared.view.View.{View}
use Rattle.dr_ring.specs.declared.view.Role.TheVariants.{Kernel, Pushing, Resetting, User, Dirty}
use Rattle.dr_ring.specs.declared.view.Role.TheVariants.{Copied}

-- the flags of an entry word are DIRTY alone
abbrev pub IsDirty : ℕ → Type 0
IsDirty word = flags_in word ≡ 1

-- the flags of an entry word have the bit RESET
abbrev pub HasReset : ℕ → Type 0
HasReset word = bit_and (flags_in word) 2 ≢ 0

-- a seat's view after the load of the entry word at an index
abbrev pub looked : View → ℕ → ℕ → View
looked v index word = record v { loaded = v.loaded ++ (index, word) ∷ [] }

-- .. after the first store of a push
abbrev pub pushing : View → ℕ → View
pushing v offset = record v { role = Pushing offset }

-- .. after the second
abbrev pub pushed_one : View → Entry → View
pushed_one v e = record v { role = Kernel; entries = v.entries ++ e ∷ [] }

-- .. when it has found the entry at its reset number harvested
abbrev pub resetting : View → View
resetting v = record v { role = Resetting; known = max v.known (v.reset + 1) }

-- .. after the reset
abbrev pub reset_one : View → View
reset_one v = record v { role = Kernel; reset = v.reset + 1 }

-- .. when it has found the entry at its harvest number dirty
abbrev pub saw : View → ℕ → View
saw v slot = record v { role = Dirty slot }

-- .. when it has loaded that entry's offset too
abbrev pub copied : View → Entry → View
copied v e = record v { role = Copied e }

-- .. after the harvest
abbrev pub harvested_one : View → Entry → View
harvested_one v e = record v { role = User; entries = v.entries ++ e ∷ [] }

-- what a seat knows, and the slots that it has
abbrev Seated : Type 0
Seated = Me ℕ View

-- it has the view w, and the slots that it had
abbrev pub Becomes : Seated → Seated → View → Type 0
Becomes m m' w = m' ≡ (w, m.1)

-- the kernel seat stores the offset of the next entry
abbrev pub offers : Step ℕ → Seated → ℕ → Seated → Type 0
offers st m n m' = Becomes m m' (pushing m.0 st.first)

-- the kernel seat stores the next entry word, dirty
abbrev pub pushes : Step ℕ → Seated → ℕ → Seated → Type 0
pushes st m n m' =
    (e : Entry) → m.0.role ≡ Pushing e.offset → st.first ≡ first_word e 1
    → Becomes m m' (pushed_one m.0 e)

-- the kernel seat loads the entry word n at its reset number
abbrev pub finds : Step ℕ → Seated → ℕ → Seated → Type 0
finds st m n m' =
    (HasReset n → Becomes m m' (resetting (looked m.0 st.word n))
    × ((e : Entry) × (slice_get m.0.entries m.0.reset ≡ Some e) × (n ≡ first_word e 3)))
    × (¬ HasReset n → Becomes m m' (looked m.0 st.word n) × (m.0.known ≤ m.0.reset))

-- the kernel seat loads the offset n there
abbrev pub reads : Step ℕ → Seated → ℕ → Seated → Type 0
reads st m n m' = (m' ≡ m) × ((e : Entry) → slice_get m.0.entries m.0.reset ≡ Some e → n ≡ e.offset)

-- the kernel seat stores 0 there
abbrev pub resets : Step ℕ → Seated → ℕ → Seated → Type 0
resets st m n m' = Becomes m m' (reset_one m.0)

-- the user seat loads the entry word n at its harvest number
abbrev pub sees : Step ℕ → Seated → ℕ → Seated → Type 0
sees st m n m' =
    (IsDirty n → Becomes m m' (saw (looked m.0 st.word n) (n / 2 ^ 32))
    × (length m.0.entries + 1 < 2 ^ 64))
    × (¬ IsDirty n → Becomes m m' (looked m.0 st.word n) × (m.0.known ≤ length m.0.entries))

-- the user seat loads the offset n there
abbrev pub copies : Step ℕ → Seated → ℕ → Seated → Type 0
copies st m n m' =
    (slot : ℕ) → m.0.role ≡ Dirty slot
    → Becomes m m' (copied m.0 (record { slot = slot; offset = n }))

-- the user seat stores the entry word there, harvested
abbrev pub harvests : Step ℕ → Seated → ℕ → Seated → Type 0
harvests st m n m' = (e : Entry) → m.0.role ≡ Copied e → Becomes m m' (harvested_one m.0 e)

-- a seat compares the list that it was told with its own
abbrev pub compares : Step ℕ → Seated → ℕ → Seated → Type 0
compares st m n m' =
    (m' ≡ m) × (m.0.role ≡ Kernel → IsPrefix m.0.told m.0.entries)
    × (m.0.role ≡ User → IsPrefix m.0.entries m.0.told ⊎ IsPrefix m.0.told m.0.entries)

-- the same seat, now with the view w
abbrev pub IsMoved : Seat ℕ View → Seat ℕ View → View → Type 0
IsMoved old new w = (new.table_id ≡ old.table_id) × (new.id ≡ old.id) × (new.me ≡ (w, old.me.1))

-- the kernel seat has loaded this word at this index, the harvested entry at its reset number
abbrev pub FindsHarvested : ℕ → ℕ → Seat ℕ View → Seat ℕ View → Type 0
FindsHarvested index word old new =
    IsMoved old new (resetting (looked old.me.0 index word))
    × ((e : Entry) × (slice_get old.me.0.entries old.me.0.reset ≡ Some e) × (word ≡ first_word e 3))

-- .. and it is not harvested, so the seat knows of no more harvests than it has reset
abbrev pub FindsNone : ℕ → ℕ → Seat ℕ View → Seat ℕ View → Type 0
FindsNone index word old new =
    IsMoved old new (looked old.me.0 index word) × (old.me.0.known ≤ old.me.0.reset)

-- the user seat has loaded this word at this index, the dirty entry at its harvest number
abbrev pub SeesDirty : ℕ → ℕ → Seat ℕ View → Seat ℕ View → Type 0
SeesDirty index word old new =
    IsMoved old new (saw (looked old.me.0 index word) (word / 2 ^ 32))
    × (length old.me.0.entries + 1 < 2 ^ 64)

-- .. and it is not dirty, so the seat knows of no more pushes than it has harvested
abbrev pub SeesNone : ℕ → ℕ → Seat ℕ View → Seat ℕ View → Type 0
SeesNone index word old new =
    IsMoved old new (looked old.me.0 index word) × (old.me.0.known ≤ length old.me.0.entries)
