-- What a reap leaves: the pushed entries are deposited, each deposited entry is reset,
-- and the permissions go.
use Rattle.std.specs.Prelude.{◌≡◌, ◌<◌, ◌-◌, ℕ, zero, suc, Bool, not, true, ◌==◌, nat_lt}
use Rattle.std.specs.Prelude.{if◌then◌else◌, List, [], ◌∷◌, ◌++◌, Option, Some, None}
use Rattle.std.specs.List.{list_any}
use Rattle.dr_types.specs.declared.guest.Guest.{Guest}
use Rattle.dr_types.specs.Scripts.{vcpu_count}
use Rattle.dr_history.specs.declared.event.Event.{Event}
use Rattle.dr_history.specs.declared.event.Event.TheVariants.{Deposited, Reset, Flushed}
use Rattle.dr_history.specs.Entries.{pushes, resets, used}
use Rattle.dr_history.specs.Rules.{deposits_entry}
use Rattle.dr_turns_law.specs.Deposits.{next_deposited}
use Rattle.dr_turns.specs.Firsts.{first_below}
use Rattle.dr_schedule_law.specs.Settled.{Range, range_of, of_vcpu, flushed}

-- the vCPU is one of those whose rings are reaped: a single one, or all
abbrev pub is_reaped : Option ℕ → ℕ → Bool
is_reaped None v = true
is_reaped (Some w) v = w == v

-- the least entry of a vCPU that was pushed and isn't deposited
abbrev pub first_undeposited : ℕ → List Event → Option ℕ
first_undeposited v past =
    first_below (λ k. not (list_any (deposits_entry v k) past)) (pushes v past)

abbrev pub deposited_from : ℕ → Option ℕ → List Event → List Event
deposited_from v None past = past
deposited_from v (Some k) past = Deposited v k (pushes v past) ∷ past

-- one Deposited of the vCPU's pushed entries that aren't deposited, where there are some
abbrev pub rest_deposited : ℕ → List Event → List Event
rest_deposited v past = deposited_from v (first_undeposited v past) past

-- .. for each of the first n vCPUs that is reaped, in rising order
abbrev pub rests_deposited : Option ℕ → ℕ → List Event → List Event
rests_deposited whose zero past = past
rests_deposited whose (suc n) past =
    let before = rests_deposited whose n past in
    if is_reaped whose n then rest_deposited n before else before

-- at most n Reset of the vCPU, each of its next entry, while that is deposited
abbrev pub reset_while : ℕ → ℕ → List Event → List Event
reset_while v zero past = past
reset_while v (suc n) past =
    if next_deposited v past then reset_while v n (Reset v (resets v past) ∷ past) else past

-- each deposited entry of the vCPU is reset, in order
abbrev pub all_reset : ℕ → List Event → List Event
all_reset v past = reset_while v (used v past) past

-- .. of the first n vCPUs, in rising order
abbrev pub all_reset_below : ℕ → List Event → List Event
all_reset_below zero past = past
all_reset_below (suc n) past = all_reset n (all_reset_below n past)

-- The events after a reap of one vCPU's ring or of all: for each of them one Deposited of what it
-- pushed since, then the Resets of each vCPU's deposited entries, then a flush where a page is
-- closing.
unfoldable pub reaped : Guest → Option ℕ → List Event → List Event
reaped guest whose past =
    flushed guest
    (all_reset_below (vcpu_count guest) (rests_deposited whose (vcpu_count guest) past))

-- the event is one that a reap appends
abbrev pub IsReap : Event → Type 0
IsReap (Deposited v from to) = Unit {0}
IsReap (Reset v k) = Unit {0}
IsReap Flushed = Unit {0}
IsReap e = ⊥

-- the new events are the old ones with some more after them
pub record Extends (old new : List Event) : Type 0 where
  pub more : List Event
  pub parts : new ≡ more ++ old

-- the entries of the vCPU below this number are deposited, and no others
pub record AreFirstDeposited (v n : ℕ) (past : List Event) : Type 0 where
  pub is : (k : ℕ) → list_any (deposits_entry v k) past ≡ nat_lt k n

-- of each vCPU of the guest exactly the entries below its number are deposited
pub record AreDepositedUpTo (guest : Guest) (starts : ℕ → ℕ) (past : List Event) : Type 0 where
  pub each : (v : ℕ) → v < vcpu_count guest → AreFirstDeposited v (starts v) past

-- what a vCPU pushed from a number on
abbrev pub rest_from : ℕ → ℕ → List Event → Range
rest_from v first past = range_of v first (pushes v past - first)

-- of each vCPU that is reaped the list has one range, what it pushed from its number on,
-- and of the others none
pub record AreRests (guest : Guest) (whose : Option ℕ) (starts : ℕ → ℕ) (rs : List Range)
    (past : List Event) : Type 0 where
  pub each : (v : ℕ) → v < vcpu_count guest
      → of_vcpu v rs ≡ (if is_reaped whose v then rest_from v (starts v) past ∷ [] else [])

-- the numbers after a reap: of a vCPU that is reaped all that it pushed are deposited
abbrev pub starts_after : Option ℕ → (ℕ → ℕ) → List Event → ℕ → ℕ
starts_after whose starts past v = if is_reaped whose v then pushes v past else starts v
