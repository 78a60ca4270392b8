-- What a vCPU's turns leave, at which the migrator waits for it to execute.
use Rattle.std.proofs.Common.{inl, inr, ◌≡◌, ℕ, ◌<◌, ◌≤◌, Bool, true, false, List, [], ◌∷◌, ◌++◌, length, refl, ap, ◌∙◌, arith, length-append}
use Rattle.std.specs.Prelude.{◌⊎◌, is_some}
use Rattle.dr_types.specs.declared.guest.Guest.{Guest}
use Rattle.dr_types.specs.Scripts.{operation}
use Rattle.dr_types.specs.Validity.{IsValid}
use Rattle.dr_history.specs.declared.event.Event.{Event}
use Rattle.dr_history.specs.declared.event.Event.TheVariants.{Read, Write, Paint, Local, Halted, Opened, Filled, Pushed, Exited, Deposited, Reset, Flushed, Start, Asked, Synced, Copied, Throttled, Stopped, Switched}
use Rattle.dr_history.specs.Execution.{is_halt, ops}
use Rattle.dr_history.specs.Legality.{IsLegalSoFar}
use Rattle.dr_history.specs.Times.{times}
use Rattle.dr_history.specs.Vcpus.{in_guest, is_full}
use Rattle.dr_turns.specs.Due.{advanced}
use Rattle.dr_turns.specs.Turns.{after_op, after_exit}
use Rattle.dr_turns.specs.declared.answers.Advance.TheVariants as advance
use Rattle.dr_schedule_law.specs.Reaps.{AreDepositedUpTo, Extends, reaped}
use Rattle.dr_schedule_law.specs.Schedule.{CutAtTurn, exited, reaps_after_full}
use Rattle.dr_schedule_law.specs.Waiting.{AwaitsOp}
use Rattle.dr_schedule_law.proofs.Cutting.{own_is_reaped}
use Rattle.dr_schedule_law.proofs.Exiting.{exited_inside, exited_outside, inside_after_op}
use Rattle.dr_schedule_law.proofs.Extending.{extends_longer, reap_extends}
use Rattle.dr_schedule_law.proofs.Progress.{op_more, exit_more, reap_more_when_full}
use Rattle.dr_schedule_law.proofs.Scheduled.{follows_still, follows_cut, op_follows, halt_follows, full_follows, op_cut, full_cut}
use Rattle.dr_schedule_law.proofs.Telling.{has_op}
use Rattle.dr_schedule_law.proofs.Timing.{op_times, exited_times, reap_times}
use Rattle.dr_migrate.specs.Driving.{Acts, ActsInPart, Breaks, Moves}
use Rattle.dr_migrate.specs.Leaving.{ExitedInPart}

-- the times of events after others
times_append : (xs ys : List Event) → times (xs ++ ys) ≡ times xs ++ times ys
times_append [] ys = refl
times_append (Start at ∷ xs) ys = ap (λ ts. at ∷ ts) (times_append xs ys)
times_append (Synced r at pages ∷ xs) ys = ap (λ ts. at ∷ ts) (times_append xs ys)
times_append (Read v i space a x ∷ xs) ys = times_append xs ys
times_append (Write v i space a l x ∷ xs) ys = times_append xs ys
times_append (Paint v i p b ∷ xs) ys = times_append xs ys
times_append (Local v i ∷ xs) ys = times_append xs ys
times_append (Halted v i ∷ xs) ys = times_append xs ys
times_append (Opened v k p ∷ xs) ys = times_append xs ys
times_append (Filled v p ∷ xs) ys = times_append xs ys
times_append (Pushed v k ∷ xs) ys = times_append xs ys
times_append (Exited v why ∷ xs) ys = times_append xs ys
times_append (Deposited v a b ∷ xs) ys = times_append xs ys
times_append (Reset v k ∷ xs) ys = times_append xs ys
times_append (Flushed ∷ xs) ys = times_append xs ys
times_append (Asked r ∷ xs) ys = times_append xs ys
times_append (Copied r p ∷ xs) ys = times_append xs ys
times_append (Throttled v us ∷ xs) ys = times_append xs ys
times_append (Stopped ∷ xs) ys = times_append xs ys
times_append (Switched ∷ xs) ys = times_append xs ys

by_test : (b : Bool) (P : Type 0) → (b ≡ true → P) → (b ≡ false → P) → P
by_test true P f g = f refl
by_test false P f g = g refl

-- what the migrator waits for, and what is known there
pub record WaitsForOp (guest : Guest) (now v done : ℕ) (past : List Event) (starts : ℕ → ℕ) : Type 0 where
  pub valid : IsValid guest
  pub legal : IsLegalSoFar guest past
  pub answer : (advanced guest now past).0 ≡ advance.NotPaced v done
  pub awaits : AwaitsOp guest past v
  pub all_deposited : AreDepositedUpTo guest starts past

full_more : (guest : Guest) (now v done : ℕ) (past : List Event) (starts : ℕ → ℕ) → WaitsForOp guest now v done past starts → is_full guest v past ≡ true
    → length past < length (reaped guest (reaps_after_full guest v) (exited guest v past))
full_more guest now v done past starts it full =
    let whose = reaps_after_full guest v in
    by_test (in_guest v past) _
    (λ inside.
    let left : length past < length (after_exit guest v past) = exit_more guest past v in
    let on : length (after_exit guest v past) ≤ length (reaped guest whose (after_exit guest v past)) =
    extends_longer (after_exit guest v past) (reaped guest whose (after_exit guest v past)) (reap_extends guest whose (after_exit guest v past)) in
    rw (exited_inside guest v past inside) (omega (arith, left, on)))
    (λ out. rw (exited_outside guest v past out) (reap_more_when_full guest whose starts past v it.valid it.legal it.all_deposited it.awaits.vcpu (own_is_reaped guest v) full))

moves_full : (guest : Guest) (now v done : ℕ) (old new : List Event) (starts : ℕ → ℕ) → WaitsForOp guest now v done old starts → is_full guest v old ≡ true
    → new ≡ reaped guest (reaps_after_full guest v) (exited guest v old) → Moves guest old new
moves_full guest now v done old new starts it full is = rw is (record {
  follows = full_follows guest now old v done it.answer full;
  more = full_more guest now v done old starts it full;
  timeless = reap_times guest (reaps_after_full guest v) (exited guest v old) ∙ exited_times guest old v;
})

moves_halt : (guest : Guest) (now v done : ℕ) (old new : List Event) (starts : ℕ → ℕ) → WaitsForOp guest now v done old starts → is_full guest v old ≡ false
    → is_halt (operation guest v (ops v old)) ≡ true → new ≡ exited guest v (after_op guest v old) → Moves guest old new
moves_halt guest now v done old new starts it room halts is =
    let some : is_some (operation guest v (ops v old)) ≡ true = has_op guest old v it.valid it.legal it.awaits in
    let here : new ≡ after_exit guest v (after_op guest v old) = is ∙ exited_inside guest v (after_op guest v old) (inside_after_op guest old v some) in
    let first : length old < length (after_op guest v old) = op_more guest old v some in
    let then : length (after_op guest v old) < length (after_exit guest v (after_op guest v old)) = exit_more guest (after_op guest v old) v in
    record {
      follows = rw here (halt_follows guest now old v done it.answer room halts);
      more = rw here (omega (arith, first, then));
      timeless = ap times is ∙ exited_times guest (after_op guest v old) v ∙ op_times guest old v;
    }

moves_op : (guest : Guest) (now v done : ℕ) (old new : List Event) (starts : ℕ → ℕ) → WaitsForOp guest now v done old starts → is_full guest v old ≡ false
    → is_halt (operation guest v (ops v old)) ≡ false → new ≡ after_op guest v old → Moves guest old new
moves_op guest now v done old new starts it room goes is = rw is (record {
  follows = op_follows guest now old v done it.answer room goes;
  more = op_more guest old v (has_op guest old v it.valid it.legal it.awaits);
  timeless = op_times guest old v;
})

-- where the turns came to their end
pub acts_move : (guest : Guest) (now v done : ℕ) (old new : List Event) (starts : ℕ → ℕ) → WaitsForOp guest now v done old starts → Acts guest v old new → Moves guest old new
acts_move guest now v done old new starts it acts =
    by_test (is_full guest v old) _
    (λ full. moves_full guest now v done old new starts it full (acts.full full))
    (λ room.
    by_test (is_halt (operation guest v (ops v old))) _
    (λ halts. moves_halt guest now v done old new starts it room halts (acts.halts room halts))
    (λ goes. moves_op guest now v done old new starts it room goes (acts.runs room goes)))

-- nothing happened
pub none_breaks : (guest : Guest) (old new : List Event) → new ≡ old → Breaks guest old new
none_breaks guest old new is = rw is (record {
  cut = follows_cut guest old old (follows_still guest old);
  timeless = refl;
})

none_added : (added rest : List ℕ) → length (added ++ rest) ≤ length rest → added ++ rest ≡ rest
none_added [] rest few = refl
none_added (t ∷ added) rest few = absurd (omega (arith, few, length-append added rest))

-- where what comes next names no time, a first part of it names none
times_between : (old new whole : List Event) → Extends old new → Extends new whole
    → times whole ≡ times old → times new ≡ times old
times_between old new whole begun within same =
    let here : times new ≡ times begun.more ++ times old = ap times begun.parts ∙ times_append begun.more old in
    let all : times whole ≡ times within.more ++ times new =
    ap times within.parts ∙ times_append within.more new in
    let few : length (times begun.more ++ times old) ≤ length (times old) =
    omega (arith, ap length here, ap length all, ap length same, length-append (times within.more) (times new)) in
    here ∙ none_added (times begun.more) (times old) few

-- a first part of a reap names no time
pub part_breaks : (guest : Guest) (old mid new whole : List Event) → CutAtTurn guest old new
    → times mid ≡ times old → times whole ≡ times mid → Extends mid new → Extends new whole
    → Breaks guest old new
part_breaks guest old mid new whole cut first same begun within = record {
  cut = cut;
  timeless = times_between mid new whole begun within same ∙ first;
}

full_breaks : (guest : Guest) (now v done : ℕ) (old new : List Event) (starts : ℕ → ℕ)
    → WaitsForOp guest now v done old starts → is_full guest v old ≡ true → ExitedInPart guest v old new
    → Breaks guest old new
full_breaks guest now v done old new starts it full (inl none) = none_breaks guest old new none
full_breaks guest now v done old new starts it full (inr part) =
    let mid : List Event = exited guest v old in
    part_breaks guest old mid new (reaped guest (reaps_after_full guest v) mid)
    (full_cut guest now old new v done it.answer full part.begun part.within)
    (exited_times guest old v) (reap_times guest (reaps_after_full guest v) mid) part.begun part.within

op_breaks : (guest : Guest) (now v done : ℕ) (old new : List Event) (starts : ℕ → ℕ)
    → WaitsForOp guest now v done old starts → is_full guest v old ≡ false
    → (new ≡ old) ⊎ (new ≡ after_op guest v old) → Breaks guest old new
op_breaks guest now v done old new starts it room (inl none) = none_breaks guest old new none
op_breaks guest now v done old new starts it room (inr is) = rw is (record {
  cut = op_cut guest now old v done it.answer room;
  timeless = op_times guest old v;
})

-- where they were broken off
pub acts_break : (guest : Guest) (now v done : ℕ) (old new : List Event) (starts : ℕ → ℕ) → WaitsForOp guest now v done old starts → ActsInPart guest v old new → Breaks guest old new
acts_break guest now v done old new starts it acts =
    by_test (is_full guest v old) _
    (λ full. full_breaks guest now v done old new starts it full (acts.full full))
    (λ room. op_breaks guest now v done old new starts it room (acts.runs room))
