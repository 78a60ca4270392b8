-- The block that comes next, by what the advance answers.
use Rattle.std.proofs.Common.{◌≡◌, ℕ, Bool, true, false, cond, List, ◌∷◌, Option, Some, None, refl, ap, ◌∙◌}
use Rattle.std.proofs.lemmas.Bool.{false≢true, true≢false}
use Rattle.dr_types.specs.declared.guest.Guest.{Guest}
use Rattle.dr_types.specs.declared.guest.Op.{Op}
use Rattle.dr_types.specs.declared.guest.Op.TheVariants as op
use Rattle.dr_types.specs.Scripts.{operation}
use Rattle.dr_history.specs.declared.event.Event.{Event}
use Rattle.dr_history.specs.declared.event.Event.TheVariants.{Flushed}
use Rattle.dr_history.specs.Execution.{ops, is_halt}
use Rattle.dr_history.specs.Vcpus.{is_full}
use Rattle.dr_turns.specs.declared.answers.Advance.{Advance}
use Rattle.dr_turns.specs.declared.answers.Advance.TheVariants as advance
use Rattle.dr_turns.specs.Due.{advanced}
use Rattle.dr_turns.specs.Turns.{after_op}
use Rattle.dr_schedule_law.specs.Reaps.{reaped}
use Rattle.dr_schedule_law.specs.Schedule.{Call, Point, point, exited, call_after_op, vcpu_block, appends, due_block, reaps_after_full, next_block}
use Rattle.dr_schedule_law.specs.Schedule.Call.{rest, reap, leave}

due_none : (guest : Guest) (past : List Event) (a : Advance) (new : List Event) → appends a ≡ true
    → due_block guest past (a, new) ≡ point rest new
due_none guest past advance.Started new h = refl
due_none guest past (advance.Answered r pages) new h = refl
due_none guest past (advance.Copied r page) new h = refl
due_none guest past (advance.Blank r first pages) new h = refl
due_none guest past (advance.Asked r) new h = refl
due_none guest past advance.Stopping new h = refl
due_none guest past advance.Switched new h = refl
due_none guest past a new h = absurd (false≢true h)

due_is : (guest : Guest) (past : List Event) (p : Advance × List Event) (a : Advance) → p.0 ≡ a
    → due_block guest past p ≡ due_block guest past (a, p.1)
due_is guest past p a is = ap (λ (b : Advance). due_block guest past (b, p.1)) is

-- the advance's own events
pub block_of_advance : (guest : Guest) (now : ℕ) (past : List Event)
    → appends (advanced guest now past).0 ≡ true → next_block guest now (point rest past) ≡ point rest
    (advanced guest now past).1
unfolding next_block
block_of_advance guest now past h = due_none guest past (advanced guest now past).0 (advanced guest now past).1 h

block_of_vcpu : (guest : Guest) (now : ℕ) (past : List Event) (v done : ℕ)
    → (advanced guest now past).0 ≡ advance.NotPaced v done
    → next_block guest now (point rest past) ≡ vcpu_block guest v past
unfolding next_block
block_of_vcpu guest now past v done is =
    due_is guest past (advanced guest now past) (advance.NotPaced v done) is

full_case : (full : Bool) (a b : Point) → full ≡ true → cond full a b ≡ a
full_case true a b h = refl
full_case false a b h = absurd (false≢true h)

room_case : (full : Bool) (a b : Point) → full ≡ false → cond full a b ≡ b
room_case true a b h = absurd (true≢false h)
room_case false a b h = refl

call_rest : (v : ℕ) (o : Option Op) → is_halt o ≡ false → call_after_op v o ≡ rest
call_rest v None h = refl
call_rest v (Some op.Halt) h = absurd (true≢false h)
call_rest v (Some o) h = refl

call_leave : (v : ℕ) (o : Option Op) → is_halt o ≡ true → call_after_op v o ≡ leave v
call_leave v None h = absurd (false≢true h)
call_leave v (Some op.Halt) h = refl
call_leave v (Some o) h = absurd (false≢true h)

-- a vCPU with a full ring leaves, which calls for a reap
pub block_of_full : (guest : Guest) (now : ℕ) (past : List Event) (v done : ℕ)
    → (advanced guest now past).0 ≡ advance.NotPaced v done → is_full guest v past ≡ true
    → next_block guest now (point rest past) ≡ point (reap v) (exited guest v past)
block_of_full guest now past v done is full =
    block_of_vcpu guest now past v done is
    ∙ full_case (is_full guest v past) (point (reap v) (exited guest v past))
    (point (call_after_op v (operation guest v (ops v past))) (after_op guest v past)) full

-- a vCPU executes its op
pub block_of_room : (guest : Guest) (now : ℕ) (past : List Event) (v done : ℕ)
    → (advanced guest now past).0 ≡ advance.NotPaced v done → is_full guest v past ≡ false
    → next_block guest now (point rest past) ≡ point (call_after_op v (operation guest v (ops v past)))
    (after_op guest v past)
block_of_room guest now past v done is room =
    block_of_vcpu guest now past v done is
    ∙ room_case (is_full guest v past) (point (reap v) (exited guest v past))
    (point (call_after_op v (operation guest v (ops v past))) (after_op guest v past)) room

-- a vCPU executes an op that is no halt
pub block_of_op : (guest : Guest) (now : ℕ) (past : List Event) (v done : ℕ)
    → (advanced guest now past).0 ≡ advance.NotPaced v done → is_full guest v past ≡ false
    → is_halt (operation guest v (ops v past)) ≡ false → next_block guest now (point rest past) ≡ point rest
    (after_op guest v past)
block_of_op guest now past v done is room goes =
    block_of_room guest now past v done is room ∙ ap (λ (c : Call). point c (after_op guest v past))
    (call_rest v (operation guest v (ops v past)) goes)

-- a halt calls for an exit
pub block_of_halt : (guest : Guest) (now : ℕ) (past : List Event) (v done : ℕ)
    → (advanced guest now past).0 ≡ advance.NotPaced v done → is_full guest v past ≡ false
    → is_halt (operation guest v (ops v past)) ≡ true → next_block guest now (point rest past) ≡ point
    (leave v) (after_op guest v past)
block_of_halt guest now past v done is room halts =
    block_of_room guest now past v done is room ∙ ap (λ (c : Call). point c (after_op guest v past))
    (call_leave v (operation guest v (ops v past)) halts)

-- the exit that was called for
pub block_of_leave : (guest : Guest) (now v : ℕ) (past : List Event)
    → next_block guest now (point (leave v) past) ≡ point rest (exited guest v past)
unfolding next_block
block_of_leave guest now v past = refl

-- the reap that was called for
pub block_of_reap : (guest : Guest) (now v : ℕ) (past : List Event)
    → next_block guest now (point (reap v) past) ≡ point rest (reaped guest (reaps_after_full guest v) past)
unfolding next_block
block_of_reap guest now v past = refl

-- a kicked vCPU leaves
pub block_of_kicked : (guest : Guest) (now : ℕ) (past : List Event) (v : ℕ)
    → (advanced guest now past).0 ≡ advance.NotOut v → next_block guest now (point rest past) ≡ point rest
    (exited guest v past)
unfolding next_block
block_of_kicked guest now past v is = due_is guest past (advanced guest now past) (advance.NotOut v) is

-- all rings are reaped
pub block_of_unreset : (guest : Guest) (now : ℕ) (past : List Event) (v k : ℕ)
    → (advanced guest now past).0 ≡ advance.NotReset v k
    → next_block guest now (point rest past) ≡ point rest (reaped guest None past)
unfolding next_block
block_of_unreset guest now past v k is = due_is guest past (advanced guest now past) (advance.NotReset v k) is

-- a flush
pub block_of_flush : (guest : Guest) (now : ℕ) (past : List Event)
    → (advanced guest now past).0 ≡ advance.NotFlushed → next_block guest now (point rest past) ≡ point rest
    (Flushed ∷ past)
unfolding next_block
block_of_flush guest now past is = due_is guest past (advanced guest now past) advance.NotFlushed is
