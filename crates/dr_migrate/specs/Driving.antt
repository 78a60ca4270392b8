-- What a drive keeps from one advance to the next.
use Rattle.std.specs.Prelude.{◌≡◌, ◌<◌, ◌≤◌, ◌⊎◌, ℕ, Bool, true, false, All}
use Rattle.std.specs.Prelude.{List, ◌++◌, length, Option, Some, None, Result, Ok, Err}
use Rattle.std.specs.List.{list_any}
use Rattle.dr_types.specs.declared.guest.Guest.{Guest}
use Rattle.dr_history.specs.declared.event.Event.{Event}
use Rattle.dr_history.specs.Kinds.{is_switched}
use Rattle.dr_schedule_law.specs.Bound.{most_events}
use Rattle.dr_history.specs.Times.{times}
use Rattle.dr_types.specs.declared.memory.Memory.{Memory}
use Rattle.dr_types.specs.Ports.{Rose}
use Rattle.dr_types.specs.Scripts.{operation}
use Rattle.dr_types.specs.declared.step.Step.TheVariants as step
use Rattle.dr_history.specs.Execution.{is_halt, ops}
use Rattle.dr_history.specs.Vcpus.{is_full}
use Rattle.dr_turns.specs.Turns.{after_op}
use Rattle.dr_turns.specs.declared.answers.Advance.{Advance}
use Rattle.dr_turns.specs.declared.answers.Turn.{Turn}
use Rattle.dr_turns.specs.declared.answers.Turn.TheVariants as turn
use Rattle.dr_turns.specs.Due.{advanced, run_end}
use Rattle.dr_turns.specs.declared.answers.RunEnd.{RunEnd}
use Rattle.dr_turns.specs.declared.answers.RunEnd.TheVariants as end
use Rattle.dr_bench.specs.Bench.{BenchView}
use Rattle.dr_bench.specs.declared.bench.BenchFault.{BenchFault}
use Rattle.dr_bench.specs.declared.bench.BenchFault.TheVariants as fault
use Rattle.dr_collector.specs.Collected.{Collected}
use Rattle.dr_schedule_law.specs.Reaps.{reaped}
use Rattle.dr_schedule_law.specs.Schedule.{appends, exited, reaps_after_full, Follows, CutAtTurn}
use Rattle.dr_reap.specs.Harvests.{AllDeposited}
use Rattle.dr_migrate.specs.Leaving.{ExitedInPart}

-- the run goes on: no put failed, it wasn't given up, and of each vCPU the deposited entries are
-- those that the collector handed out
pub record GoesOn (guest : Guest) (it : BenchView) (collected : List Collected) : Type 0 where
  pub whole : it.failed ≡ false
  pub going : it.over ≡ false
  pub all_deposited : AllDeposited guest it.past collected

-- the advance that is due answers this, at some time
pub record IsDue (guest : Guest) (past : List Event) (due : Advance) : Type 0 where
  pub now : ℕ
  pub answer : (advanced guest now past).0 ≡ due

-- Turns that came to their end: whole blocks of the schedule came, there are more events, and no
-- time was named.
pub record Moves (guest : Guest) (old new : List Event) : Type 0 where
  pub follows : Follows guest old new
  pub more : length old < length new
  pub timeless : times new ≡ times old

-- turns that were broken off: blocks of the schedule came, cut at the end of a turn, and no time
-- was named
pub record Breaks (guest : Guest) (old new : List Event) : Type 0 where
  pub cut : CutAtTurn guest old new
  pub timeless : times new ≡ times old

-- where the run stands at its end
abbrev pub IsEnd : Guest → List Event → RunEnd → Type 0
IsEnd guest past end.Switched = list_any is_switched past ≡ true
IsEnd guest past end.Budget = run_end guest past ≡ end.Budget
IsEnd guest past end.Open = ⊥

-- whether a put failed, by the fault
abbrev pub is_sink : BenchFault → Bool
is_sink fault.Sink = true
is_sink fault.Memory = false

-- where a put failed, the outlet's count of faults has risen
abbrev pub SinkRises : BenchFault → ℕ → ℕ → Type 0
SinkRises fault.Sink before now = Rose before now
SinkRises fault.Memory before now = Unit {0}

-- what a vCPU did that was to execute, by what its turn told: it executed its next op, or its ring
-- is full
abbrev pub IsExecuted : Guest → ℕ → List Event → List Event → Turn → Type 0
IsExecuted guest v old new (turn.Done step.Halted) =
    (is_full guest v old ≡ false)
    × (is_halt (operation guest v (ops v old)) ≡ true)
    × (new ≡ after_op guest v old)
IsExecuted guest v old new (turn.Done s) =
    (is_full guest v old ≡ false)
    × (is_halt (operation guest v (ops v old)) ≡ false)
    × (new ≡ after_op guest v old)
IsExecuted guest v old new (turn.Full used soft) = (is_full guest v old ≡ true) × (new ≡ old)
IsExecuted guest v old new t = ⊥

-- what a vCPU's turns leave that was to execute: with a full ring it left and rings were reaped;
-- after a halt it left; else it executed its next op
pub record Acts (guest : Guest) (v : ℕ) (old new : List Event) : Type 0 where
  pub full : is_full guest v old ≡ true
      → new ≡ reaped guest (reaps_after_full guest v) (exited guest v old)
  pub halts : is_full guest v old ≡ false → is_halt (operation guest v (ops v old)) ≡ true
      → new ≡ exited guest v (after_op guest v old)
  pub runs : is_full guest v old ≡ false → is_halt (operation guest v (ops v old)) ≡ false
      → new ≡ after_op guest v old

-- .. that were broken off: nothing was done, or with a full ring it left and a part of the reap was
-- done, or it executed its next op
pub record ActsInPart (guest : Guest) (v : ℕ) (old new : List Event) : Type 0 where
  pub full : is_full guest v old ≡ true → ExitedInPart guest v old new
  pub runs : is_full guest v old ≡ false → (new ≡ old) ⊎ (new ≡ after_op guest v old)

-- the times in the events are those of before and some that the clock reads
pub record AddsRead (reads : ℕ → Type 0) (old new : List Event) : Type 0 where
  pub added : List ℕ
  pub parts : times new ≡ added ++ times old
  pub read : All reads added

-- the run goes on: whole blocks of the schedule came, and there are more events, but
-- no more than a guest can have
pub record Continues (guest : Guest) (old new : List Event) : Type 0 where
  pub follows : Follows guest old new
  pub more : length old < length new
  pub few : length new ≤ most_events guest

-- the run stands at this end, and nothing was added
pub record Ends (guest : Guest) (e : RunEnd) (old new : List Event) : Type 0 where
  pub here : new ≡ old
  pub end : IsEnd guest new e

-- what is done where the migrator waits, by what comes of it
abbrev pub Waited : Guest → Result (Option RunEnd) Memory → List Event → List Event → Type 0
Waited guest (Ok None) old new = Moves guest old new
Waited guest (Ok (Some e)) old new = Ends guest e old new
Waited guest (Err why) old new = Breaks guest old new

-- what one pass of a drive leaves, by what comes of it
abbrev pub MadeBlock : Guest → Result (Option RunEnd) BenchFault → List Event → List Event → Type 0
MadeBlock guest (Ok None) old new = Continues guest old new
MadeBlock guest (Ok (Some e)) old new = Ends guest e old new
MadeBlock guest (Err why) old new = CutAtTurn guest old new

-- what the advance leaves: more events where it appends some, and else those that were
pub record HasAdvanced (guest : Guest) (now : ℕ) (due : Advance)
    (old new : List Event) : Type 0 where
  pub answer : (advanced guest now old).0 ≡ due
  pub continues : appends due ≡ true → Continues guest old new
  pub waits : appends due ≡ false → new ≡ old

-- so far, from the first of these events to the last, a drive has gone on
pub record HasDriven (reads : ℕ → Type 0) (guest : Guest) (old new : BenchView)
    (collected : List Collected) : Type 0 where
  pub going : GoesOn guest new collected
  pub follows : Follows guest old.past new.past
  pub times : AddsRead reads old.past new.past
  pub later : old.faults ≤ new.faults
