-- What is kept of each vCPU, so that nobody looks back.
use Rattle.std.specs.Prelude.{◌≡◌, ℕ, ◌+◌, ◌<◌, ◌^◌, true, false, List, map}
use Rattle.dr_history.specs.declared.event.Event.{Event}
use Rattle.dr_history.specs.declared.event.Event.TheVariants.{Start, Read, Write, Paint, Local}
use Rattle.dr_history.specs.declared.event.Event.TheVariants.{Halted, Opened, Filled, Pushed}
use Rattle.dr_history.specs.declared.event.Event.TheVariants.{Exited, Deposited, Reset, Flushed}
use Rattle.dr_history.specs.declared.event.Event.TheVariants.{Synced, Copied, Throttled, Stopped}
use Rattle.dr_history.specs.declared.event.Event.TheVariants.{Switched}
use Rattle.dr_history.specs.Lookback.{count, since, before, below}
use Rattle.dr_history.specs.Kinds.{is_op_of, is_pushed_of, is_asked}
use Rattle.dr_history.specs.Entries.{opens, pushes, resets}
use Rattle.dr_history.specs.Vcpus.{in_guest, kicked, halted}
use Rattle.dr_history.specs.Execution.{ops}
use Rattle.dr_history.specs.Throttles.{begins_span}
use Rattle.dr_state.specs.declared.vcpus.Vcpu.{Vcpu}

-- a value for each number below n
abbrev pub table : {X : Type 0} → (ℕ → X) → ℕ → List X
table f n = map f (below n)

-- what is kept of a vCPU
abbrev pub row_of : List Event → ℕ → Vcpu
row_of past v = record {
  ops = ops v past;
  recent = count (is_op_of v) (since is_asked past);
  opens = opens v past;
  pushes = pushes v past;
  resets = resets v past;
  asked_opens = opens v (before is_asked past);
  span_pushes = count (is_pushed_of v) (since begins_span past);
  in_guest = in_guest v past;
  kicked = kicked v past;
  halted = halted v past;
}

-- the rows of so many vCPUs
unfoldable pub rows_of : ℕ → List Event → List Vcpu
rows_of n past = table (row_of past) n

-- each count can rise by one
pub record HasRoom (row : Vcpu) : Type 0 where
  pub ops : row.ops < 2 ^ 63
  pub recent : row.recent < 2 ^ 63
  pub opens : row.opens < 2 ^ 63
  pub pushes : row.pushes < 2 ^ 63
  pub resets : row.resets < 2 ^ 63
  pub span_pushes : row.span_pushes < 2 ^ 63

-- a row after an event of its vCPU
abbrev pub executed_row : Vcpu → Vcpu
executed_row row = record row { ops = row.ops + 1; recent = row.recent + 1; in_guest = true }

-- after its last operation
abbrev pub halted_row : Vcpu → Vcpu
halted_row row =
    record row { ops = row.ops + 1; recent = row.recent + 1; in_guest = true; halted = true }

-- after it opened an entry
abbrev pub opened_row : Vcpu → Vcpu
opened_row row = record row { opens = row.opens + 1 }

-- after it pushed an entry
abbrev pub pushed_row : Vcpu → Vcpu
pushed_row row = record row { pushes = row.pushes + 1; span_pushes = row.span_pushes + 1 }

-- after an entry of it was reset
abbrev pub reset_row : Vcpu → Vcpu
reset_row row = record row { resets = row.resets + 1 }

-- after it left the guest
abbrev pub exited_row : Vcpu → Vcpu
exited_row row = record row { in_guest = false; kicked = false }

-- and after an event that is of every vCPU
abbrev pub asked_row : Vcpu → Vcpu
asked_row row = record row { recent = 0; asked_opens = row.opens; kicked = row.in_guest }

-- after a time from which the rate is counted
abbrev pub spanned_row : Vcpu → Vcpu
spanned_row row = record row { span_pushes = 0 }

-- the event is an operation of the vCPU after which it goes on
abbrev pub IsOperation : ℕ → Event → Type 0
IsOperation v (Read w i space address value) = w ≡ v
IsOperation v (Write w i space address len value) = w ≡ v
IsOperation v (Paint w i page byte) = w ≡ v
IsOperation v (Local w i) = w ≡ v
IsOperation v e = ⊥

-- a time from which the rate is counted
abbrev pub begins : Event → Type 0
begins (Start at) = Unit {0}
begins (Synced r at pages) = Unit {0}
begins e = ⊥

-- no row shows the event
abbrev pub IsUnseen : Event → Type 0
IsUnseen (Filled v page) = Unit {0}
IsUnseen (Deposited v from to) = Unit {0}
IsUnseen Flushed = Unit {0}
IsUnseen (Copied r page) = Unit {0}
IsUnseen (Throttled v us) = Unit {0}
IsUnseen Stopped = Unit {0}
IsUnseen Switched = Unit {0}
IsUnseen e = ⊥

-- the vCPU that an event names is below n
abbrev pub IsWithin : ℕ → Event → Type 0
IsWithin n (Read w i space address value) = w < n
IsWithin n (Write w i space address len value) = w < n
IsWithin n (Paint w i page byte) = w < n
IsWithin n (Local w i) = w < n
IsWithin n (Halted w i) = w < n
IsWithin n (Opened w k page) = w < n
IsWithin n (Filled w page) = w < n
IsWithin n (Pushed w k) = w < n
IsWithin n (Exited w why) = w < n
IsWithin n (Deposited w from to) = w < n
IsWithin n (Reset w k) = w < n
IsWithin n (Throttled w us) = w < n
IsWithin n e = Unit {0}
