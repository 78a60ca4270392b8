-- Turns that put nothing on the stream.
use Rattle.std.proofs.Common.{◌≡◌, ℕ, zero, suc, Bool, true, false, cond, List, ◌∷◌, Option, Some, None, refl, ap, ◌∙◌}
use Rattle.std.specs.Prelude.{nat_le, max, Result, Ok, Err, OnOk, OnErr, IfSome}
use Rattle.dr_types.specs.declared.guest.Guest.{Guest}
use Rattle.dr_history.specs.declared.event.Event.{Event}
use Rattle.dr_history.specs.declared.event.Event.TheVariants.{Start, Read, Write, Paint, Local, Halted, Opened, Filled, Pushed, Exited, Deposited, Reset, Flushed, Synced, Copied, Stopped, Switched}
use Rattle.dr_history.specs.Entries.{opens, pushes, resets}
use Rattle.dr_history.specs.Rules.{vcpu_of_op}
use Rattle.dr_history.specs.Rounds.{last_synced}
use Rattle.dr_history.specs.Stream.{follows_zero, parts_of}
use Rattle.dr_history.specs.Vcpus.{in_guest, stopped}
use Rattle.dr_history_law.specs.Room.{unpushed}
use Rattle.dr_machine.specs.Views.{MachineView}
use Rattle.dr_turns_law.specs.Deposits.{next_deposited}
use Rattle.dr_turns.specs.Buffers.{pushed_after, all_pushed}
use Rattle.dr_turns.specs.Due.{some_closing, round_of}
use Rattle.dr_turns.specs.Turns.{refusal, executed, after_op, exit_reason, after_exit}
use Rattle.dr_turns.specs.declared.answers.Turn.{Turn}
use Rattle.dr_turns_law.proofs.Executing.{by_executed}
use Rattle.dr_bench.specs.Bench.{IsSilent, IsQuiet}

adds_none : (guest : Guest) (past : List Event) (e : Event) → IsSilent e → parts_of guest (e ∷ past) ≡ parts_of guest past
adds_none guest past (Start at) is = absurd is
adds_none guest past (Synced r at pages) is = absurd is
adds_none guest past (Copied r page) is = absurd is
adds_none guest past Switched is = absurd is
adds_none guest past e is = refl

-- only a Copied goes on zeros
follows_none : (guest : Guest) (r page : ℕ) (past : List Event) (e : Event) → IsSilent e → follows_zero guest r page (e ∷ past) ≡ false
follows_none guest r page past (Copied q last) is = absurd is
follows_none guest r page past e is = refl

stops_none : (past : List Event) (e : Event) → IsSilent e → stopped (e ∷ past) ≡ stopped past
stops_none past (Start at) is = absurd is
stops_none past Stopped is = absurd is
stops_none past e is = refl

-- by one event
pub quiet_silent : (guest : Guest) (past : List Event) (e : Event) → IsSilent e → IsQuiet guest past (e ∷ past)
quiet_silent guest past e is = record {
  parts = adds_none guest past e is;
  ended = λ was page next zero. follows_none guest (round_of (last_synced (e ∷ past))) page past e is;
  stop = stops_none past e is;
}

pub quiet_still : (guest : Guest) (past : List Event) → IsQuiet guest past past
quiet_still guest past = record { parts = refl; ended = λ was. was; stop = refl }

pub quiet_then : (guest : Guest) (old mid new : List Event) → IsQuiet guest old mid → IsQuiet guest mid new → IsQuiet guest old new
quiet_then guest old mid new a b = record {
  parts = b.parts ∙ a.parts;
  ended = λ was. b.ended (a.ended was);
  stop = b.stop ∙ a.stop;
}

-- to what is the same list
pub quiet_to : (guest : Guest) (old mid new : List Event) → IsQuiet guest old mid → new ≡ mid → IsQuiet guest old new
quiet_to guest old mid new a is = rw is a

quiet_more : (guest : Guest) (old past : List Event) (e : Event) → IsQuiet guest old past → IsSilent e → IsQuiet guest old (e ∷ past)
quiet_more guest old past e a is = quiet_then guest old past (e ∷ past) a (quiet_silent guest past e is)

op_silent : (e : Event) (v : ℕ) → vcpu_of_op e ≡ Some v → IsSilent e
op_silent (Read w i space a x) v is = tt
op_silent (Write w i space a l x) v is = tt
op_silent (Paint w i q b) v is = tt
op_silent (Local w i) v is = tt
op_silent (Halted w i) v is = tt
op_silent e v is = cc

-- an op, with what its page needs
quiet_executed : (guest : Guest) (past : List Event) (v : ℕ) → IsQuiet guest past (executed guest v past)
quiet_executed guest past v =
    by_executed (λ (xs : List Event). IsQuiet guest past xs) guest past v
    (λ none. quiet_still guest past)
    (λ e is. quiet_silent guest past e (op_silent e v is))
    (λ e page is. quiet_more guest past (Filled v page ∷ past) e (quiet_silent guest past (Filled v page) tt) (op_silent e v is))
    (λ e page is. quiet_more guest past (Opened v (opens v past) page ∷ past) e (quiet_silent guest past (Opened v (opens v past) page) tt) (op_silent e v is))

quiet_pushed : (guest : Guest) (v n : ℕ) (past : List Event) → IsQuiet guest past (pushed_after v n past)
quiet_pushed guest v zero past = quiet_still guest past
quiet_pushed guest v (suc n) past =
    quiet_more guest past (pushed_after v n past) (Pushed v (pushes v (pushed_after v n past))) (quiet_pushed guest v n past) tt

full_case : (full : Bool) (guest : Guest) (v : ℕ) (past : List Event) → IsQuiet guest past (cond full (all_pushed v past) past)
full_case true guest v past = quiet_pushed guest v (unpushed v past) past
full_case false guest v past = quiet_still guest past

quiet_after_op : (guest : Guest) (v : ℕ) (past : List Event) → IsQuiet guest past (after_op guest v past)
quiet_after_op guest v past =
    quiet_then guest past (executed guest v past) (after_op guest v past) (quiet_executed guest past v)
    (full_case (nat_le (max 1 guest.settings.buffer) (unpushed v (executed guest v past))) guest v (executed guest v past))

quiet_after_exit : (guest : Guest) (v : ℕ) (past : List Event) → IsQuiet guest past (after_exit guest v past)
quiet_after_exit guest v past =
    quiet_more guest past (all_pushed v past) (Exited v (exit_reason guest v (all_pushed v past))) (quiet_pushed guest v (unpushed v past) past) tt

-- a machine that answers an error is as it was
pub result_quiet : {T E : Type 0} (guest : Guest) (old new : MachineView) (next : List Event) (result : Result T E) → IsQuiet guest old.past next → OnOk result (new.past ≡ next) → OnErr result (new ≡ old) → IsQuiet guest old.past new.past
result_quiet guest old new next (Ok x) quiet ok err = quiet_to guest old.past next new.past quiet ok
result_quiet guest old new next (Err e) quiet ok err = quiet_to guest old.past old.past new.past (quiet_still guest old.past) (ap (λ (s : MachineView). s.past) err)

test_quiet : {T E : Type 0} (guest : Guest) (old new : MachineView) (next : List Event) (result : Result T E) (test : Bool) → IsQuiet guest old.past next → (test ≡ false → new ≡ old) → (test ≡ true → OnOk result (new.past ≡ next)) → OnErr result (new ≡ old) → IsQuiet guest old.past new.past
test_quiet guest old new next result true quiet still ok err = result_quiet guest old new next result quiet (ok refl) err
test_quiet guest old new next result false quiet still ok err = quiet_to guest old.past old.past new.past (quiet_still guest old.past) (ap (λ (s : MachineView). s.past) (still refl))

op_case : {T E : Type 0} (guest : Guest) (v : ℕ) (old new : MachineView) (result : Result T E) (why : Option Turn) → IfSome why (λ turn. new ≡ old) → (why ≡ None → OnOk result (new.past ≡ after_op guest v old.past)) → OnErr result (new ≡ old) → IsQuiet guest old.past new.past
op_case guest v old new result (Some turn) still ok err = quiet_to guest old.past old.past new.past (quiet_still guest old.past) (ap (λ (s : MachineView). s.past) still)
op_case guest v old new result None still ok err = result_quiet guest old new (after_op guest v old.past) result (quiet_after_op guest v old.past) (ok refl) err

-- a turn that may execute
pub op_quiet : {T E : Type 0} (guest : Guest) (v : ℕ) (old new : MachineView) (result : Result T E) → IfSome (refusal guest old.over v old.past) (λ turn. new ≡ old) → (refusal guest old.over v old.past ≡ None → OnOk result (new.past ≡ after_op guest v old.past)) → OnErr result (new ≡ old) → IsQuiet guest old.past new.past
op_quiet guest v old new result = op_case guest v old new result (refusal guest old.over v old.past)

-- a turn in which a vCPU may leave
pub exit_quiet : {T E : Type 0} (guest : Guest) (v : ℕ) (old new : MachineView) (result : Result T E) → (in_guest v old.past ≡ false → new ≡ old) → (in_guest v old.past ≡ true → OnOk result (new.past ≡ after_exit guest v old.past)) → OnErr result (new ≡ old) → IsQuiet guest old.past new.past
exit_quiet guest v old new result = test_quiet guest old new (after_exit guest v old.past) result (in_guest v old.past) (quiet_after_exit guest v old.past)

-- a deposit
pub deposit_quiet : {T E : Type 0} (guest : Guest) (v from to : ℕ) (old new : MachineView) (result : Result T E) → OnOk result (new.past ≡ Deposited v from to ∷ old.past) → OnErr result (new ≡ old) → IsQuiet guest old.past new.past
deposit_quiet guest v from to old new result = result_quiet guest old new (Deposited v from to ∷ old.past) result (quiet_silent guest old.past (Deposited v from to) tt)

-- a reset
pub reset_quiet : {T E : Type 0} (guest : Guest) (v : ℕ) (old new : MachineView) (result : Result T E) → (next_deposited v old.past ≡ false → new ≡ old) → (next_deposited v old.past ≡ true → OnOk result (new.past ≡ Reset v (resets v old.past) ∷ old.past)) → OnErr result (new ≡ old) → IsQuiet guest old.past new.past
reset_quiet guest v old new result = test_quiet guest old new (Reset v (resets v old.past) ∷ old.past) result (next_deposited v old.past) (quiet_silent guest old.past (Reset v (resets v old.past)) tt)

-- a flush
pub flush_quiet : {T E : Type 0} (guest : Guest) (old new : MachineView) (result : Result T E) → (some_closing guest old.past ≡ false → new ≡ old) → (some_closing guest old.past ≡ true → OnOk result (new.past ≡ Flushed ∷ old.past)) → OnErr result (new ≡ old) → IsQuiet guest old.past new.past
flush_quiet guest old new result = test_quiet guest old new (Flushed ∷ old.past) result (some_closing guest old.past) (quiet_silent guest old.past Flushed tt)
