-- How many events of each kind a history has.
use Rattle.std.specs.Prelude.{ℕ, ◌+◌, ◌^◌, ◌<◌, ◌==◌, ◌&&◌, nat_lt, min, ◌-◌, Bool, true, false}
use Rattle.std.specs.Prelude.{if◌then◌else◌, List, [], ◌∷◌, Option, Some, None}
use Rattle.dr_history.specs.declared.event.Event.{Event}
use Rattle.dr_history.specs.declared.event.Event.TheVariants.{Read, Write, Opened, Filled, Pushed}
use Rattle.dr_history.specs.declared.event.Event.TheVariants.{Deposited, Reset, Throttled}
use Rattle.dr_history.specs.Lookback.{count}
use Rattle.dr_history.specs.Kinds.{is_flushed, is_synced, is_copied}
use Rattle.dr_core_speed.specs.declared.tally.Tally.{Tally}

abbrev pub is_opened : Event → Bool
is_opened (Opened v k page) = true
is_opened e = false

abbrev pub is_filled : Event → Bool
is_filled (Filled v page) = true
is_filled e = false

abbrev pub is_pushed : Event → Bool
is_pushed (Pushed v k) = true
is_pushed e = false

abbrev pub is_deposited : Event → Bool
is_deposited (Deposited v from to) = true
is_deposited e = false

abbrev pub is_reset : Event → Bool
is_reset (Reset v k) = true
is_reset e = false

abbrev pub is_read : Event → Bool
is_read (Read v i space address value) = true
is_read e = false

abbrev pub is_write : Event → Bool
is_write (Write v i space address len value) = true
is_write e = false

abbrev pub is_throttled : Event → Bool
is_throttled (Throttled v us) = true
is_throttled e = false

-- a Throttled that is a sleep
abbrev pub is_sleep : Event → Bool
is_sleep (Throttled v us) = nat_lt 0 us
is_sleep e = false

-- where the last event is a Deposited: its vCPU and its first number
abbrev pub last_deposit : List Event → Option (ℕ × ℕ)
last_deposit (Deposited v from to ∷ earlier) = Some (v, from)
last_deposit past = None

abbrev pub starts_before : ℕ → ℕ → Option (ℕ × ℕ) → Bool
starts_before v from None = false
starts_before v from (Some other) = other.0 == v && nat_lt from other.1

-- a Deposited after that of a later range of its vCPU
abbrev pub is_out_of_order : Option (ℕ × ℕ) → Event → Bool
is_out_of_order last (Deposited v from to) = starts_before v from last
is_out_of_order last e = false

-- a count where one more passed, or none
abbrev pub one_more : Bool → ℕ → ℕ
one_more passed n = if passed then n + 1 else n

-- how many ranges were deposited directly after a later one
abbrev pub out_of_order : List Event → ℕ
out_of_order [] = 0
out_of_order (e ∷ earlier) =
    one_more (is_out_of_order (last_deposit earlier) e) (out_of_order earlier)

-- the counts of a history
abbrev pub tally_of : List Event → Tally
tally_of past = record {
  opened = count is_opened past;
  filled = count is_filled past;
  pushed = count is_pushed past;
  deposited = count is_deposited past;
  out_of_order = out_of_order past;
  reset = count is_reset past;
  flushed = count is_flushed past;
  copied = count is_copied past;
  read = count is_read past;
  write = count is_write past;
  synced = count is_synced past;
  throttled = count is_throttled past;
  sleep = count is_sleep past;
}

-- the counts with one more event after a last deposit
abbrev pub counted : Option (ℕ × ℕ) → Event → Tally → Tally
counted last e t = record {
  opened = one_more (is_opened e) t.opened;
  filled = one_more (is_filled e) t.filled;
  pushed = one_more (is_pushed e) t.pushed;
  deposited = one_more (is_deposited e) t.deposited;
  out_of_order = one_more (is_out_of_order last e) t.out_of_order;
  reset = one_more (is_reset e) t.reset;
  flushed = one_more (is_flushed e) t.flushed;
  copied = one_more (is_copied e) t.copied;
  read = one_more (is_read e) t.read;
  write = one_more (is_write e) t.write;
  synced = one_more (is_synced e) t.synced;
  throttled = one_more (is_throttled e) t.throttled;
  sleep = one_more (is_sleep e) t.sleep;
}

-- one more of each kind can be counted
pub record IsSmall (t : Tally) : Type 0 where
  pub opened : t.opened < 2 ^ 63
  pub filled : t.filled < 2 ^ 63
  pub pushed : t.pushed < 2 ^ 63
  pub deposited : t.deposited < 2 ^ 63
  pub out_of_order : t.out_of_order < 2 ^ 63
  pub reset : t.reset < 2 ^ 63
  pub flushed : t.flushed < 2 ^ 63
  pub copied : t.copied < 2 ^ 63
  pub read : t.read < 2 ^ 63
  pub write : t.write < 2 ^ 63
  pub synced : t.synced < 2 ^ 63
  pub throttled : t.throttled < 2 ^ 63
  pub sleep : t.sleep < 2 ^ 63

-- a sum, or the greatest number of 64 bits where that is less
abbrev pub capped_sum : ℕ → ℕ → ℕ
capped_sum a b = min (a + b) (2 ^ 64 - 1)

-- the counts of two together
abbrev pub sum_of : Tally → Tally → Tally
sum_of a b = record {
  opened = capped_sum a.opened b.opened;
  filled = capped_sum a.filled b.filled;
  pushed = capped_sum a.pushed b.pushed;
  deposited = capped_sum a.deposited b.deposited;
  out_of_order = capped_sum a.out_of_order b.out_of_order;
  reset = capped_sum a.reset b.reset;
  flushed = capped_sum a.flushed b.flushed;
  copied = capped_sum a.copied b.copied;
  read = capped_sum a.read b.read;
  write = capped_sum a.write b.write;
  synced = capped_sum a.synced b.synced;
  throttled = capped_sum a.throttled b.throttled;
  sleep = capped_sum a.sleep b.sleep;
}
