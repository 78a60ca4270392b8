-- What each event of a turn keeps, the turn keeps; and what each kind of block keeps, the next block keeps.
use Rattle.std.proofs.Common.{◌≡◌, ℕ, zero, suc, Bool, true, false, cond, List, ◌∷◌, refl}
use Rattle.std.specs.Prelude.{Option, Some, None}
use Rattle.dr_types.specs.declared.guest.Guest.{Guest}
use Rattle.dr_types.specs.Scripts.{operation}
use Rattle.dr_history.specs.declared.event.Event.{Event}
use Rattle.dr_history.specs.declared.event.Event.TheVariants.{Read, Write, Paint, Local, Halted, Opened, Filled, Pushed, Exited, Flushed}
use Rattle.dr_history.specs.Entries.{opens, pushes}
use Rattle.dr_history.specs.Execution.{ops}
use Rattle.dr_history.specs.Rules.{vcpu_of_op}
use Rattle.dr_history.specs.Vcpus.{in_guest, is_full}
use Rattle.dr_history_law.specs.Room.{unpushed}
use Rattle.dr_turns_law.proofs.Executing.{by_executed}
use Rattle.dr_turns.specs.declared.answers.Advance.{Advance}
use Rattle.dr_turns.specs.declared.answers.Advance.TheVariants as advance
use Rattle.dr_turns.specs.Buffers.{pushed_after, all_pushed}
use Rattle.dr_turns.specs.Due.{advanced}
use Rattle.dr_turns.specs.Turns.{exit_reason, executed, after_op, after_exit}
use Rattle.dr_schedule_law.specs.Reaps.{reaped}
use Rattle.dr_schedule_law.specs.Schedule.{Point, point, Call, exited, call_after_op, due_block, reaps_after_full, block}
use Rattle.dr_schedule_law.specs.Schedule.Call.{rest, reap, leave}
use Rattle.dr_schedule_law.proofs.Reaping.{by_test}

-- the vCPU in whose turn the event comes
abbrev pub turn_of : Event → Option ℕ
turn_of (Read w i space a x) = Some w
turn_of (Write w i space a l x) = Some w
turn_of (Paint w i q b) = Some w
turn_of (Local w i) = Some w
turn_of (Halted w i) = Some w
turn_of (Opened w k q) = Some w
turn_of (Filled w q) = Some w
turn_of (Pushed w k) = Some w
turn_of (Exited w why) = Some w
turn_of e = None

-- an op comes in the turn of its vCPU
op_turn : (e : Event) (v : ℕ) → vcpu_of_op e ≡ Some v → turn_of e ≡ Some v
op_turn (Read w i space a x) v is = is
op_turn (Write w i space a l x) v is = is
op_turn (Paint w i q b) v is = is
op_turn (Local w i) v is = is
op_turn (Halted w i) v is = is
op_turn e v is = cc

-- what each event of a vCPU's turn keeps, the pushes of its buffer keep
pub by_pushed : (P : List Event → Type 0) (v n : ℕ) (past : List Event) → P past
    → ((e : Event) (xs : List Event) → turn_of e ≡ Some v → P xs → P (e ∷ xs)) → P (pushed_after v n past)
by_pushed P v zero past h on = h
by_pushed P v (suc n) past h on =
    on (Pushed v (pushes v (pushed_after v n past))) (pushed_after v n past) refl (by_pushed P v n past h on)

-- .. a turn in which it executes keeps
pub by_op : (P : List Event → Type 0) (guest : Guest) (past : List Event) (v : ℕ) → P past
    → ((e : Event) (xs : List Event) → turn_of e ≡ Some v → P xs → P (e ∷ xs)) → P (after_op guest v past)
by_op P guest past v h on =
    let now : P (executed guest v past) =
    by_executed P guest past v (λ none. h)
    (λ e is. on e past (op_turn e v is) h)
    (λ e page is. on e (Filled v page ∷ past) (op_turn e v is) (on (Filled v page) past refl h))
    (λ e page is.
    on e (Opened v (opens v past) page ∷ past) (op_turn e v is)
    (on (Opened v (opens v past) page) past refl h)) in
    by_test P _ (all_pushed v (executed guest v past)) (executed guest v past)
    (by_pushed P v (unpushed v (executed guest v past)) (executed guest v past) now on) now

-- .. and so does its exit
pub by_exit : (P : List Event → Type 0) (guest : Guest) (past : List Event) (v : ℕ) → P past
    → ((e : Event) (xs : List Event) → turn_of e ≡ Some v → P xs → P (e ∷ xs)) → P (after_exit guest v past)
by_exit P guest past v h on =
    on (Exited v (exit_reason guest v (all_pushed v past))) (all_pushed v past) refl
    (by_pushed P v (unpushed v past) past h on)

-- also where it does nothing
pub by_exited : (P : List Event → Type 0) (guest : Guest) (past : List Event) (v : ℕ) → P past
    → ((e : Event) (xs : List Event) → turn_of e ≡ Some v → P xs → P (e ∷ xs)) → P (exited guest v past)
by_exited P guest past v h on =
    by_test P (in_guest v past) (after_exit guest v past) past (by_exit P guest past v h on) h

-- what holds after each kind of block
pub record Keeps (P : List Event → Type 0) (guest : Guest) (now : ℕ) (past : List Event) : Type 0 where
  pub exits : (v : ℕ) → P (exited guest v past)
  pub executes : (v : ℕ) → P (after_op guest v past)
  pub reaps : (whose : Option ℕ) → P (reaped guest whose past)
  pub flushes : P (Flushed ∷ past)
  pub advances : P (advanced guest now past).1

point_case : (P : List Event → Type 0) (test : Bool) (a b : Point) → P a.past → P b.past → P (cond test a b).past
point_case P true a b h k = h
point_case P false a b h k = k

due_keeps : (P : List Event → Type 0) (guest : Guest) (now : ℕ) (past : List Event) (a : Advance) (new : List Event)
    → Keeps P guest now past → P new → P (due_block guest past (a, new)).past
due_keeps P guest now past (advance.NotPaced v done) new each h =
    point_case P (is_full guest v past) (point (reap v) (exited guest v past))
    (point (call_after_op v (operation guest v (ops v past))) (after_op guest v past)) (each.exits v)
    (each.executes v)
due_keeps P guest now past (advance.NotOut v) new each h = each.exits v
due_keeps P guest now past (advance.NotReset v k) new each h = each.reaps None
due_keeps P guest now past advance.NotFlushed new each h = each.flushes
due_keeps P guest now past a new each h = h

-- what holds after each kind of block holds after the next one
pub by_block : (P : List Event → Type 0) (guest : Guest) (now : ℕ) (call : Call) (past : List Event)
    → Keeps P guest now past → P (block guest now call past).past
by_block P guest now rest past each =
    due_keeps P guest now past (advanced guest now past).0 (advanced guest now past).1 each each.advances
by_block P guest now (reap v) past each = each.reaps (reaps_after_full guest v)
by_block P guest now (leave v) past each = each.exits v
