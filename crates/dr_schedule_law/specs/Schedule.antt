-- The schedule: which block of events follows those before it.
use Rattle.std.specs.Prelude.{◌≡◌, ◌⊎◌, ℕ, Bool, true, false, nat_le, if◌then◌else◌}
use Rattle.std.specs.Prelude.{List, [], ◌∷◌, ◌++◌, Option, Some, None}
use Rattle.dr_types.specs.declared.guest.Guest.{Guest}
use Rattle.dr_types.specs.declared.guest.Op.{Op}
use Rattle.dr_types.specs.declared.guest.Op.TheVariants as op
use Rattle.dr_types.specs.Scripts.{operation}
use Rattle.dr_history.specs.declared.event.Event.{Event}
use Rattle.dr_history.specs.declared.event.Event.TheVariants.{Flushed}
use Rattle.dr_history.specs.Execution.{ops}
use Rattle.dr_history.specs.Vcpus.{in_guest, is_full}
use Rattle.dr_turns.specs.Turns.{after_op, after_exit}
use Rattle.dr_turns.specs.Due.{advanced}
use Rattle.dr_turns.specs.declared.answers.Advance.{Advance}
use Rattle.dr_turns.specs.declared.answers.Advance.TheVariants as advance
use Rattle.dr_schedule_law.specs.Reaps.{Extends, reaped}

-- what the block before calls for: nothing; a reap, since a vCPU left with a full ring;
-- an exit, since a vCPU halted
pub data Call : Type 0 where
  rest : Call
  reap : ℕ → Call
  leave : ℕ → Call

-- the events so far, and what the last block calls for
pub record Point : Type 0 where
  pub call : Call
  pub past : List Event

abbrev pub point : Call → List Event → Point
point call past = record { call = call; past = past }

-- the vCPU leaves, where it is in the guest
abbrev pub exited : Guest → ℕ → List Event → List Event
exited guest v past = if in_guest v past then after_exit guest v past else past

-- a halt calls for an exit
abbrev pub call_after_op : ℕ → Option Op → Call
call_after_op v (Some op.Halt) = leave v
call_after_op v o = rest

-- a vCPU that is to execute leaves where its ring is full, and else executes its next op
abbrev pub vcpu_block : Guest → ℕ → List Event → Point
vcpu_block guest v past =
    if is_full guest v past then point (reap v) (exited guest v past)
    else point (call_after_op v (operation guest v (ops v past))) (after_op guest v past)

-- an advance of this answer appends events
abbrev pub appends : Advance → Bool
appends advance.Started = true
appends (advance.Answered r pages) = true
appends (advance.Copied r page) = true
appends (advance.Blank r first pages) = true
appends (advance.Asked r) = true
appends advance.Stopping = true
appends advance.Switched = true
appends answer = false

-- the block that the next advance calls for, by what that step answers
abbrev pub due_block : Guest → List Event → Advance × List Event → Point
due_block guest past (advance.NotPaced v done, new) = vcpu_block guest v past
due_block guest past (advance.NotOut v, new) = point rest (exited guest v past)
due_block guest past (advance.NotReset v k, new) = point rest (reaped guest None past)
due_block guest past (advance.NotFlushed, new) = point rest (Flushed ∷ past)
due_block guest past (answer, new) = point rest new

-- whose rings are reaped after a vCPU left with a full one: its own where there is a quota, else
-- all
abbrev pub reaps_after_full : Guest → ℕ → Option ℕ
reaps_after_full guest v = if nat_le 1 guest.settings.quota then Some v else None

abbrev pub block : Guest → ℕ → Call → List Event → Point
block guest now (reap v) past = point rest (reaped guest (reaps_after_full guest v) past)
block guest now (leave v) past = point rest (exited guest v past)
block guest now rest past = due_block guest past (advanced guest now past)

-- The point after the next block, the first of these that applies: the reap after an exit with a
-- full ring; the exit after a halt; what the next advance calls for, at this time. After the
-- switch-over, and where the rounds are spent, nothing follows: the point stays.
unfoldable pub next_block : Guest → ℕ → Point → Point
next_block guest now at = block guest now at.call at.past

-- the point after a block for each of these times, the last of the list first, from this point on
abbrev pub blocks_from : Guest → Point → List ℕ → Point
blocks_from guest from [] = from
blocks_from guest from (now ∷ times) = next_block guest now (blocks_from guest from times)

-- the events are blocks, each the first that applies
pub record IsScheduled (guest : Guest) (past : List Event) : Type 0 where
  pub times : List ℕ
  pub blocks : (blocks_from guest (point rest []) times).past ≡ past

-- the events are the first ones of such a list
pub record BeginsSchedule (guest : Guest) (past : List Event) : Type 0 where
  pub later : List Event
  pub scheduled : IsScheduled guest (later ++ past)

-- After the first of these events come blocks of the schedule, each the first that applies where
-- nothing was called for; the last of them calls for nothing.
pub record Follows (guest : Guest) (first past : List Event) : Type 0 where
  pub times : List ℕ
  pub blocks : blocks_from guest (point rest first) times ≡ point rest past

-- the next block is a reap, by what the last one calls for and what the next advance answers
abbrev pub is_reap : Call → Advance → Bool
is_reap (reap v) answer = true
is_reap rest (advance.NotReset v k) = true
is_reap call answer = false

-- the next block is a reap, and some first events of it have come
pub record IsInReap (guest : Guest) (at : Point) (past : List Event) : Type 0 where
  pub now : ℕ
  pub next : is_reap at.call (advanced guest now at.past).0 ≡ true
  pub begun : Extends at.past past
  pub within : Extends past (next_block guest now at).past

-- After the first of these events come blocks of the schedule, cut at the end of a turn: the last
-- may be some first events of a reap, each of which is a turn of its own. Each other block is one
-- turn.
pub record CutAtTurn (guest : Guest) (first past : List Event) : Type 0 where
  pub times : List ℕ
  pub at : Point
  pub blocks : blocks_from guest (point rest first) times ≡ at
  pub last : (past ≡ at.past) ⊎ IsInReap guest at past
