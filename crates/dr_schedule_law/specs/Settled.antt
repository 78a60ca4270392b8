-- What a settling leaves: deposits in the order of the vCPUs, then resets, then a flush.
use Rattle.std.specs.Prelude.{◌≡◌, ℕ, zero, suc, ◌+◌, ◌<◌, ◌==◌, true, false, ◌⊎◌}
use Rattle.std.specs.Prelude.{if◌then◌else◌, List, [], ◌∷◌, ◌++◌, Option, Some, None}
use Rattle.std.specs.List.{filter}
use Rattle.dr_types.specs.declared.guest.Guest.{Guest}
use Rattle.dr_types.specs.Scripts.{vcpu_count}
use Rattle.dr_history.specs.declared.event.Event.{Event}
use Rattle.dr_history.specs.declared.event.Event.TheVariants.{Deposited, Reset, Flushed}
use Rattle.dr_history.specs.Entries.{resets}
use Rattle.dr_turns_law.specs.Deposits.{first_twice, next_deposited}
use Rattle.dr_turns.specs.Due.{some_closing}

-- so many entries of a vCPU from a first number on
pub record Range : Type 0 where
  pub vcpu : ℕ
  pub first : ℕ
  pub count : ℕ

abbrev pub range_of : ℕ → ℕ → ℕ → Range
range_of vcpu first count = record { vcpu = vcpu; first = first; count = count }

-- the range is deposited, where none of it was before
abbrev pub fresh_after : Range → Option ℕ → List Event → List Event
fresh_after r None past = Deposited r.vcpu r.first (r.first + r.count) ∷ past
fresh_after r (Some k) past = past

-- the range is deposited, unless it is empty or some of it was deposited before
abbrev pub deposited_one : Range → List Event → List Event
deposited_one r past =
    if r.count == 0 then past
    else fresh_after r (first_twice r.vcpu r.first past (r.first + r.count)) past

-- each of these ranges, the first of the list first
abbrev pub deposited_all : List Range → List Event → List Event
deposited_all [] past = past
deposited_all (r ∷ rs) past = deposited_all rs (deposited_one r past)

-- those of one vCPU, in the order of the list
abbrev pub of_vcpu : ℕ → List Range → List Range
of_vcpu v rs = filter (λ r. r.vcpu == v) rs

-- those of the first n vCPUs, in rising vCPU order
abbrev pub in_order : ℕ → List Range → List Range
in_order zero rs = []
in_order (suc n) rs = in_order n rs ++ of_vcpu n rs

-- of these ranges all but these last ones were deposited
pub record Deposits (rs undone : List Range) (old new : List Event) : Type 0 where
  pub done : List Range
  pub parts : rs ≡ done ++ undone
  pub past : new ≡ deposited_all done old

-- there is an entry in the range, and none of it was deposited
pub record IsFresh (r : Range) (past : List Event) : Type 0 where
  pub some : 0 < r.count
  pub none : first_twice r.vcpu r.first past (r.first + r.count) ≡ None

-- some first of these ranges were deposited, and the next one is to be
pub record DepositsPart (rs : List Range) (old new : List Event) : Type 0 where
  pub next : Range
  pub rest : List Range
  pub deposits : Deposits rs (next ∷ rest) old new
  pub fresh : IsFresh next new

-- after these events so many Reset of the vCPU, each of its next entry
abbrev pub reset_after : ℕ → ℕ → List Event → List Event
reset_after v zero past = past
reset_after v (suc n) past =
    Reset v (resets v (reset_after v n past)) ∷ reset_after v n past

-- so many Reset of the vCPU were appended, each of an entry that was deposited
pub record Resets (v : ℕ) (old new : List Event) (n : ℕ) : Type 0 where
  pub past : new ≡ reset_after v n old
  pub due : (k : ℕ) → k < n → next_deposited v (reset_after v k old) ≡ true

-- some Reset of the vCPU were appended, and the next one is to be
pub record ResetsSome (v : ℕ) (old new : List Event) : Type 0 where
  pub count : ℕ
  pub resets : Resets v old new count
  pub due : next_deposited v new ≡ true

-- so many were, and the next entry isn't deposited
pub record ResetsAll (v : ℕ) (old new : List Event) (n : ℕ) : Type 0 where
  pub resets : Resets v old new n
  pub none : next_deposited v new ≡ false

-- the first vCPUs reset all that they can, in rising order, so many entries together
abbrev pub ResetsBelow : ℕ → List Event → List Event → ℕ → Type 0
ResetsBelow zero old new total = (new ≡ old) × (total ≡ 0)
ResetsBelow (suc v) old new total =
    (mid : List Event) × (t : ℕ) × (n : ℕ) × ResetsBelow v old mid t × ResetsAll v mid new n
    × (total ≡ t + n)

-- the vCPUs before one reset all that they can, and that one some
pub record ResetsPart (vcpus : ℕ) (old new : List Event) : Type 0 where
  pub vcpu : ℕ
  pub within : vcpu < vcpus
  pub mid : List Event
  pub before : ℕ
  pub below : ResetsBelow vcpu old mid before
  pub here : ResetsSome vcpu mid new

-- a flush, where a page is closing
abbrev pub flushed : Guest → List Event → List Event
flushed guest past = if some_closing guest past then Flushed ∷ past else past

-- These ranges are deposited in rising vCPU order, those of one vCPU in the order of the list; then
-- each vCPU, in rising order, resets until its next entry isn't deposited, so many entries
-- together; then a flush.
pub record Settles (guest : Guest) (rs : List Range) (old new : List Event) (n : ℕ) : Type 0 where
  pub mid : List Event
  pub resets : ResetsBelow (vcpu_count guest)
      (deposited_all (in_order (vcpu_count guest) rs) old) mid n
  pub past : new ≡ flushed guest mid

-- all vCPUs reset all that they can, and a flush is to come
pub record FlushWaits (guest : Guest) (old new : List Event) : Type 0 where
  pub count : ℕ
  pub resets : ResetsBelow (vcpu_count guest) old new count
  pub closing : some_closing guest new ≡ true

-- some of these turns were made, each whole and in this order, and the next one is due
abbrev pub SettlesPart : Guest → List Range → List Event → List Event → Type 0
SettlesPart guest rs old new =
    let order = in_order (vcpu_count guest) rs in
    let reaped = deposited_all order old in
    DepositsPart order old new ⊎ ResetsPart (vcpu_count guest) reaped new
    ⊎ FlushWaits guest reaped new
