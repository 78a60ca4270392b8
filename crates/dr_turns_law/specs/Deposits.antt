-- Which entries of a vCPU are deposited.
use Rattle.std.specs.Prelude.{◌≡◌, ◌<◌, ◌≤◌, ℕ, Bool, true, false, ◌&&◌, nat_le, List, Option}
use Rattle.std.specs.List.{list_any}
use Rattle.dr_history.specs.declared.event.Event.{Event}
use Rattle.dr_history.specs.Entries.{resets}
use Rattle.dr_history.specs.Rules.{deposits_entry}
use Rattle.dr_turns.specs.Firsts.{first_below}

-- the least number from one up to another that is in an earlier Deposited of the vCPU
unfoldable pub first_twice : ℕ → ℕ → List Event → ℕ → Option ℕ
first_twice v from past to =
    first_below (λ k. nat_le from k && list_any (deposits_entry v k) past) to

-- the vCPU's next entry to be reset is deposited
unfoldable pub next_deposited : ℕ → List Event → Bool
next_deposited v past = list_any (deposits_entry v (resets v past)) past

-- each of the vCPU's first n entries is deposited
pub record FirstDeposited (v n : ℕ) (past : List Event) : Type 0 where
  pub each : (k : ℕ) → k < n → list_any (deposits_entry v k) past ≡ true

-- none from this number on is deposited
pub record NoneFrom (v n : ℕ) (past : List Event) : Type 0 where
  pub none : (k : ℕ) → n ≤ k → list_any (deposits_entry v k) past ≡ false

-- some entry from this number on is deposited
pub record SomeFrom (v n : ℕ) (past : List Event) : Type 0 where
  pub later : ℕ
  pub order : n ≤ later
  pub deposited : list_any (deposits_entry v later) past ≡ true

-- some entry isn't deposited, and a later one is
pub record HasGap (v : ℕ) (past : List Event) : Type 0 where
  pub gap : ℕ
  pub later : ℕ
  pub order : gap < later
  pub missing : list_any (deposits_entry v gap) past ≡ false
  pub deposited : list_any (deposits_entry v later) past ≡ true
