-- The times that blocks add.
use Rattle.std.proofs.Common.{◌≡◌, ℕ, zero, suc, Bool, true, false, cond, List, ◌∷◌, Option, Some, None, refl, ◌∙◌, inl, inr}
use Rattle.std.specs.Prelude.{◌&&◌, not, nat_le}
use Rattle.dr_types.specs.declared.guest.Guest.{Guest}
use Rattle.dr_types.specs.Scripts.{operation, vcpu_count}
use Rattle.dr_history.specs.declared.event.Event.{Event}
use Rattle.dr_history.specs.declared.event.Event.TheVariants.{Read, Write, Paint, Local, Halted, Opened, Filled, Deposited, Reset, Flushed, Synced}
use Rattle.dr_history.specs.Dirty.{dirty_pages}
use Rattle.dr_history.specs.Entries.{opens}
use Rattle.dr_history.specs.Execution.{ops}
use Rattle.dr_history.specs.Rounds.{last_synced}
use Rattle.dr_history.specs.Rules.{vcpu_of_op}
use Rattle.dr_history.specs.Times.{times}
use Rattle.dr_history.specs.Vcpus.{stopped, in_guest, is_full}
use Rattle.dr_history_law.specs.Room.{unpushed}
use Rattle.dr_turns_law.proofs.Cases.{advanced_cases}
use Rattle.dr_turns_law.proofs.Executing.{by_executed}
use Rattle.dr_turns.specs.declared.answers.Advance.{Advance}
use Rattle.dr_turns.specs.declared.answers.Advance.TheVariants as advance
use Rattle.dr_turns.specs.Buffers.{pushed_after, all_pushed}
use Rattle.dr_turns.specs.Due.{advanced, throttled_after, answered_after, copies_from, round_of}
use Rattle.dr_turns.specs.Turns.{executed, after_op, after_exit}
use Rattle.dr_schedule_law.specs.Reaps.{IsReap, reaped}
use Rattle.dr_schedule_law.specs.Schedule.{Point, point, Call, exited, call_after_op, vcpu_block, due_block, reaps_after_full, block, next_block}
use Rattle.dr_schedule_law.specs.Schedule.Call.{rest, reap, leave}
use Rattle.dr_schedule_law.specs.Timed.{MayAddTime}
use Rattle.dr_schedule_law.proofs.Reaping.{by_test, by_reaped}

op_untimed : (e : Event) (v : ℕ) (past : List Event) → vcpu_of_op e ≡ Some v → times (e ∷ past) ≡ times past
op_untimed (Read w i space a x) v past is = refl
op_untimed (Write w i space a l x) v past is = refl
op_untimed (Paint w i q b) v past is = refl
op_untimed (Local w i) v past is = refl
op_untimed (Halted w i) v past is = refl
op_untimed e v past is = cc

pushed_untimed : (v n : ℕ) (past : List Event) → times (pushed_after v n past) ≡ times past
pushed_untimed v zero past = refl
pushed_untimed v (suc n) past = pushed_untimed v n past

-- an op names no time
pub op_times : (guest : Guest) (past : List Event) (v : ℕ) → times (after_op guest v past) ≡ times past
op_times guest past v =
    let now : times (executed guest v past) ≡ times past =
    by_executed (λ (xs : List Event). times xs ≡ times past) guest past v (λ none. refl)
    (λ e is. op_untimed e v past is)
    (λ e page is. op_untimed e v (Filled v page ∷ past) is)
    (λ e page is. op_untimed e v (Opened v (opens v past) page ∷ past) is) in
    by_test (λ (xs : List Event). times xs ≡ times past) _ (all_pushed v (executed guest v past))
    (executed guest v past)
    (pushed_untimed v (unpushed v (executed guest v past)) (executed guest v past) ∙ now) now

-- nor does an exit
pub exit_times : (guest : Guest) (past : List Event) (v : ℕ) → times (after_exit guest v past) ≡ times past
exit_times guest past v = pushed_untimed v (unpushed v past) past

pub exited_times : (guest : Guest) (past : List Event) (v : ℕ) → times (exited guest v past) ≡ times past
exited_times guest past v =
    by_test (λ (xs : List Event). times xs ≡ times past) (in_guest v past) (after_exit guest v past) past
    (exit_times guest past v) refl

reap_untimed : (past : List Event) (e : Event) (xs : List Event) → IsReap e → times xs ≡ times past
    → times (e ∷ xs) ≡ times past
reap_untimed past (Deposited v from to) xs is same = same
reap_untimed past (Reset v k) xs is same = same
reap_untimed past Flushed xs is same = same
reap_untimed past e xs is same = absurd is

-- nor does a reap
pub reap_times : (guest : Guest) (whose : Option ℕ) (past : List Event)
    → times (reaped guest whose past) ≡ times past
reap_times guest whose past =
    by_reaped (λ (xs : List Event). times xs ≡ times past) guest whose past refl (reap_untimed past)

throttled_untimed : (guest : Guest) (n : ℕ) (past : List Event)
    → times (throttled_after guest n past) ≡ times past
throttled_untimed guest zero past = refl
throttled_untimed guest (suc n) past = throttled_untimed guest n past

answered_times : (guest : Guest) (r now : ℕ) (past : List Event)
    → times (answered_after guest r now past) ≡ now ∷ times past
answered_times guest r now past =
    by_test (λ (xs : List Event). times xs ≡ now ∷ times past)
    (nat_le 1 guest.settings.quota && not (stopped past))
    (throttled_after guest (vcpu_count guest) (Synced r now (dirty_pages guest past) ∷ past))
    (Synced r now (dirty_pages guest past) ∷ past)
    (throttled_untimed guest (vcpu_count guest) (Synced r now (dirty_pages guest past) ∷ past)) refl

run_untimed : (r first n : ℕ) (past : List Event) → times (copies_from r first n past) ≡ times past
run_untimed r first zero past = refl
run_untimed r first (suc n) past = run_untimed r first n past

-- an advance names its own time at most
pub advance_times : (guest : Guest) (now : ℕ) (past : List Event)
    → MayAddTime now past (advanced guest now past).1
advance_times guest now past =
    advanced_cases (λ (p : Advance × List Event). MayAddTime now past p.1) guest now past (record {
      waits = λ a is. inl refl;
      starts = λ due. inr refl;
      answers = λ r due. inr (answered_times guest r now past);
      copies = λ page due alone. inl refl;
      blanks = λ page n due zeros. inl (run_untimed (round_of (last_synced past)) page (suc n) past);
      asks_last = λ on stop fresh. inl refl;
      switches = λ on stop asked. inl refl;
      stops = λ on runs few. inl refl;
      asks_first = λ on runs none more. inl refl;
      asks_later = λ on runs many more some paced. inl refl;
    })

place_case : (test : Bool) (a b : Point) (past : List Event) → times a.past ≡ times past
    → times b.past ≡ times past → times (cond test a b).past ≡ times past
place_case true a b past h k = h
place_case false a b past h k = k

vcpu_times : (guest : Guest) (v : ℕ) (past : List Event) → times (vcpu_block guest v past).past ≡ times past
vcpu_times guest v past =
    place_case (is_full guest v past) (point (reap v) (exited guest v past))
    (point (call_after_op v (operation guest v (ops v past))) (after_op guest v past)) past
    (exited_times guest past v) (op_times guest past v)

due_times : (guest : Guest) (now : ℕ) (past : List Event) (a : Advance) (new : List Event)
    → MayAddTime now past new → MayAddTime now past (due_block guest past (a, new)).past
due_times guest now past (advance.NotPaced v done) new h = inl (vcpu_times guest v past)
due_times guest now past (advance.NotOut v) new h = inl (exited_times guest past v)
due_times guest now past (advance.NotReset v k) new h = inl (reap_times guest None past)
due_times guest now past advance.NotFlushed new h = inl refl
due_times guest now past a new h = h

call_times : (guest : Guest) (now : ℕ) (call : Call) (past : List Event)
    → MayAddTime now past (block guest now call past).past
call_times guest now rest past =
    due_times guest now past (advanced guest now past).0 (advanced guest now past).1
    (advance_times guest now past)
call_times guest now (reap v) past = inl (reap_times guest (reaps_after_full guest v) past)
call_times guest now (leave v) past = inl (exited_times guest past v)

-- and so does each block
pub block_times : (guest : Guest) (now : ℕ) (at : Point)
    → MayAddTime now at.past (next_block guest now at).past
unfolding next_block
block_times guest now at = call_times guest now at.call at.past
