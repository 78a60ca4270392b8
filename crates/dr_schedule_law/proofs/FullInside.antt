-- Where the vCPUs with full rings are, at each point of a schedule.
use Rattle.std.proofs.Common.{◌≡◌, ℕ, zero, suc, ◌+◌, ◌<◌, ◌≤◌, Bool, true, false, cond, List, ◌∷◌, Option, Some, None, is_some, refl, ap, sym, subst, ◌∙◌, arith}
use Rattle.std.specs.Prelude.{◌==◌, ◌&&◌, not, nat_le, nat_lt}
use Rattle.std.proofs.lemmas.Bool.{leb-true, le-leb, ltb-false, eq-eqb, eqb-true, or_left, or_right, true≢false, false≢true, both_ways}
use Rattle.dr_types.specs.declared.guest.Guest.{Guest}
use Rattle.dr_types.specs.declared.guest.Op.{Op}
use Rattle.dr_types.specs.declared.guest.Op.TheVariants as op
use Rattle.dr_types.specs.Pages.{soft_limit}
use Rattle.dr_types.specs.Scripts.{operation, vcpu_count}
use Rattle.dr_types.specs.Validity.{IsValid}
use Rattle.dr_history.specs.declared.event.Event.{Event}
use Rattle.dr_history.specs.declared.event.Event.TheVariants.{Asked, Synced}
use Rattle.dr_history.specs.Dirty.{dirty_pages}
use Rattle.dr_history.specs.Entries.{opens, pushes, resets, used}
use Rattle.dr_history.specs.Execution.{ops}
use Rattle.dr_history.specs.Kinds.{is_asked, is_halted_of}
use Rattle.dr_history.specs.Legality.{IsLegalSoFar}
use Rattle.dr_history.specs.Lookback.{before}
use Rattle.dr_history.specs.Rounds.{asks, unanswered, last_synced}
use Rattle.dr_history.specs.Vcpus.{halted, stopped, in_guest, kicked, is_full}
use Rattle.dr_history_law.specs.Room.{unpushed}
use Rattle.dr_history_law.proofs.Outstanding.{pushed_opened}
use Rattle.dr_turns_law.proofs.Cases.{AnswerDue, IsWait, advanced_cases}
use Rattle.dr_turns_law.proofs.Together.{run_on}
use Rattle.dr_turns_law.proofs.Found.{first_none}
use Rattle.dr_turns.specs.declared.answers.Advance.{Advance}
use Rattle.dr_turns.specs.declared.answers.Advance.TheVariants as advance
use Rattle.dr_turns.specs.Due.{advanced, throttled_after, answered_after, round_of}
use Rattle.dr_turns.specs.Firsts.{first_unreset}
use Rattle.dr_turns.specs.Buffers.{all_pushed}
use Rattle.dr_turns.specs.Turns.{op_after, executed, after_op, after_exit}
use Rattle.dr_schedule_law.specs.Reaps.{is_reaped, AreDepositedUpTo, reaped}
use Rattle.dr_schedule_law.specs.Schedule.{Point, point, Call, exited, call_after_op, vcpu_block, due_block, reaps_after_full, block}
use Rattle.dr_schedule_law.specs.Schedule.Call.{rest, reap, leave}
use Rattle.dr_schedule_law.specs.Waiting.{AwaitsOp, AwaitsExit, Awaits}
use Rattle.dr_schedule_law.proofs.Exiting.{inside_after_op}
use Rattle.dr_schedule_law.proofs.Keeping.{by_pushed, by_op, by_exit, by_exited}
use Rattle.dr_schedule_law.proofs.Kicked.{answered_unkicked}
use Rattle.dr_schedule_law.proofs.Reaped.{reap_uses_none}
use Rattle.dr_schedule_law.proofs.Reaping.{by_test, by_reaped}
use Rattle.dr_schedule_law.proofs.Telling.{has_op}
use Rattle.dr_schedule_law.proofs.Waiting.{advance_awaits}
use Rattle.dr_schedule_law.proofs.Aside.{IsAside, aside_still, turn_aside, reap_aside, IsSameRound, round_still, turn_round, IsStill, reap_still, exit_still}

-- a vCPU with a full ring that has not halted is in the guest
abbrev pub IsFullInside : Guest → List Event → ℕ → Type 0
IsFullInside guest past v = is_full guest v past ≡ true → halted v past ≡ false → in_guest v past ≡ true

-- Where all that was asked is answered, each vCPU with a full ring that has not halted is in the
-- guest; and while a round is unanswered no entry is opened.
pub record AreFullInside (guest : Guest) (past : List Event) : Type 0 where
  pub inside : unanswered past ≡ None → (v : ℕ) → v < vcpu_count guest → IsFullInside guest past v
  pub still : is_some (unanswered past) ≡ true → (v : ℕ) → opens v past ≤ opens v (before is_asked past)

-- all that was asked is answered, and so it is of each vCPU but this one
pub record AreOthersInside (guest : Guest) (v : ℕ) (past : List Event) : Type 0 where
  pub answered : unanswered past ≡ None
  pub inside : (u : ℕ) → u < vcpu_count guest → (v == u) ≡ false → IsFullInside guest past u

-- what holds at a point, by what the last block calls for
abbrev pub HoldsAt : Guest → Call → List Event → Type 0
HoldsAt guest rest past = AreFullInside guest past
HoldsAt guest (leave v) past = AreFullInside guest past × (halted v past ≡ true)
HoldsAt guest (reap v) past = AreOthersInside guest v past

abbrev pub HoldsThere : Guest → Point → Type 0
HoldsThere guest at = HoldsAt guest at.call at.past

-- a round is unanswered, or all are answered
not_both : (o : Option ℕ) → o ≡ None → is_some o ≡ true → ⊥
not_both None none some = false≢true some
not_both (Some r) none some = cc

-- a ring of which no entry is in use isn't full
pub unused_inside : (guest : Guest) (past : List Event) (v : ℕ) → IsValid guest → used v past ≡ 0
    → IsFullInside guest past v
unused_inside guest past v valid none full going =
    let many : soft_limit guest ≤ used v past = leb-true (soft_limit guest) (used v past) full in
    absurd (omega (arith, many, none, valid.settings.room))

-- that stays so of a vCPU that is left aside
aside_inside : (guest : Guest) (u : ℕ) (old new : List Event) → IsAside u old new → IsFullInside guest old u
    → IsFullInside guest new u
aside_inside guest u old new same inside full going =
    let many : soft_limit guest ≤ used u new = leb-true (soft_limit guest) (used u new) full in
    same.stays
    ∙ inside (le-leb (soft_limit guest) (used u old) (omega (arith, many, same.uses))) (sym same.halts ∙ going)

-- and where no entry is opened, what was opened before the last Asked is still all
still_on : (old new : List Event) → IsStill old new
    → (is_some (unanswered old) ≡ true → (v : ℕ) → opens v old ≤ opens v (before is_asked old))
    → is_some (unanswered new) ≡ true → (v : ℕ) → opens v new ≤ opens v (before is_asked new)
still_on old new same still some v =
    let few : opens v old ≤ opens v (before is_asked old) =
    still (ap is_some (sym same.round.answers) ∙ some) v in
    let asked : opens v (before is_asked new) ≡ opens v (before is_asked old) =
    ap (opens v) same.round.asks in
    omega (arith, few, asked, same.opened v)

-- after the exit of a vCPU that has halted
exit_inside : (guest : Guest) (past : List Event) (v u : ℕ) (own : Bool) → (v == u) ≡ own
    → halted v past ≡ true → IsFullInside guest past u → IsFullInside guest (after_exit guest v past) u
exit_inside guest past v u true is halts inside full going =
    let stays : halted v (after_exit guest v past) ≡ true =
    by_exit (λ (xs : List Event). halted v xs ≡ true) guest past v halts
    (λ e xs turn. or_right (is_halted_of v e) (halted v xs)) in
    absurd
    (both_ways (halted u (after_exit guest v past)) going
    (subst (λ (w : ℕ). halted w (after_exit guest v past) ≡ true) (eqb-true v u is) stays))
exit_inside guest past v u false is halts inside full going =
    aside_inside guest u past (after_exit guest v past)
    (by_exit (IsAside u past) guest past v (aside_still u past) (turn_aside v u past is)) inside full going

-- after a reap, where no entry is in use of a vCPU that is reaped
reaped_inside : (guest : Guest) (whose : Option ℕ) (past : List Event) (v : ℕ) (own : Bool)
    → is_reaped whose v ≡ own
    → (is_reaped whose v ≡ true → IsFullInside guest (reaped guest whose past) v)
    → (is_reaped whose v ≡ false → IsFullInside guest past v)
    → IsFullInside guest (reaped guest whose past) v
reaped_inside guest whose past v true is f g = f is
reaped_inside guest whose past v false is f g =
    aside_inside guest v past (reaped guest whose past)
    (by_reaped (IsAside v past) guest whose past (aside_still v past) (reap_aside v past)) (g is)

-- after an op, which leaves its vCPU in the guest
op_inside : (guest : Guest) (past : List Event) (v u : ℕ) (own : Bool) → (v == u) ≡ own
    → in_guest v (after_op guest v past) ≡ true → IsFullInside guest past u
    → IsFullInside guest (after_op guest v past) u
op_inside guest past v u true is inside before full going =
    subst (λ (w : ℕ). in_guest w (after_op guest v past) ≡ true) (eqb-true v u is) inside
op_inside guest past v u false is inside before full going =
    aside_inside guest u past (after_op guest v past)
    (by_op (IsAside u past) guest past v (aside_still u past) (turn_aside v u past is)) before full going

-- an exit, where the vCPU has halted if all that was asked is answered
exit_keeps : (guest : Guest) (past : List Event) (v : ℕ) → (unanswered past ≡ None → halted v past ≡ true)
    → AreFullInside guest past → AreFullInside guest (exited guest v past)
exit_keeps guest past v halts it =
    by_test (AreFullInside guest) (in_guest v past) (after_exit guest v past) past
    (record {
      inside = λ none u lt.
          let before : unanswered past ≡ None = sym (exit_still guest past v).round.answers ∙ none in
          exit_inside guest past v u (v == u) refl (halts before) (it.inside before u lt);
      still = still_on past (after_exit guest v past) (exit_still guest past v) it.still;
    }) it

-- the exit of a vCPU with a full ring
full_exits : (guest : Guest) (past : List Event) (v : ℕ) → unanswered past ≡ None → AreFullInside guest past
    → AreOthersInside guest v (exited guest v past)
full_exits guest past v none it = record {
  answered =
      by_test (λ (xs : List Event). unanswered xs ≡ None) (in_guest v past) (after_exit guest v past) past
      ((exit_still guest past v).round.answers ∙ none) none;
  inside = λ u lt not.
      aside_inside guest u past (exited guest v past)
      (by_exited (IsAside u past) guest past v (aside_still u past) (turn_aside v u past not))
      (it.inside none u lt);
}

-- a reap, where it is so of each vCPU that isn't reaped
reap_keeps : (guest : Guest) (whose : Option ℕ) (starts : ℕ → ℕ) (past : List Event) → IsValid guest
    → IsLegalSoFar guest past → AreDepositedUpTo guest starts past
    → (unanswered past ≡ None → (v : ℕ) → v < vcpu_count guest → is_reaped whose v ≡ false
    → IsFullInside guest past v)
    → (is_some (unanswered past) ≡ true → (v : ℕ) → opens v past ≤ opens v (before is_asked past))
    → AreFullInside guest (reaped guest whose past)
reap_keeps guest whose starts past valid legal step inside still =
    let same : IsStill past (reaped guest whose past) =
    by_reaped (IsStill past) guest whose past (record { round = round_still past; opened = λ u. refl })
    (reap_still past) in
    record {
      inside = λ none v lt.
          reaped_inside guest whose past v (is_reaped whose v) refl
          (λ is.
          unused_inside guest (reaped guest whose past) v valid
          (reap_uses_none guest whose starts past v legal step lt is))
          (inside (sym same.round.answers ∙ none) v lt);
      still = still_on past (reaped guest whose past) same still;
    }

not_own : (quota : Bool) (v u : ℕ) → is_reaped (cond quota (Some v) None) u ≡ false → (v == u) ≡ false
not_own true v u h = h
not_own false v u h = absurd (true≢false h)

-- the reap after an exit with a full ring
full_reaped : (guest : Guest) (starts : ℕ → ℕ) (past : List Event) (v : ℕ) → IsValid guest
    → IsLegalSoFar guest past → AreDepositedUpTo guest starts past → AreOthersInside guest v past
    → AreFullInside guest (reaped guest (reaps_after_full guest v) past)
full_reaped guest starts past v valid legal step it =
    reap_keeps guest (reaps_after_full guest v) starts past valid legal step
    (λ none u lt not. it.inside u lt (not_own (nat_le 1 guest.settings.quota) v u not))
    (λ some. absurd (not_both (unanswered past) it.answered some))

-- an op
op_keeps : (guest : Guest) (past : List Event) (v : ℕ) → IsValid guest → IsLegalSoFar guest past
    → AwaitsOp guest past v → AreFullInside guest past → AreFullInside guest (after_op guest v past)
op_keeps guest past v valid legal awaits it =
    let same : IsSameRound past (after_op guest v past) =
    by_op (IsSameRound past) guest past v (round_still past) (turn_round v past) in
    record {
      inside = λ none u lt.
          op_inside guest past v u (v == u) refl
          (inside_after_op guest past v (has_op guest past v valid legal awaits))
          (it.inside awaits.answered u lt);
      still = λ some. absurd (not_both (unanswered past) awaits.answered (ap is_some (sym same.answers) ∙ some));
    }

-- a vCPU that executes a halt has halted
halt_halts : (guest : Guest) (past : List Event) (v : ℕ) → operation guest v (ops v past) ≡ Some op.Halt
    → halted v (after_op guest v past) ≡ true
unfolding executed
halt_halts guest past v is =
    let now : halted v (executed guest v past) ≡ true =
    ap (λ (o : Option Op). halted v (op_after guest v o past)) is
    ∙ or_left (v == v) (halted v past) (eq-eqb v v refl) in
    by_test (λ (xs : List Event). halted v xs ≡ true) _ (all_pushed v (executed guest v past))
    (executed guest v past)
    (by_pushed (λ (xs : List Event). halted v xs ≡ true) v (unpushed v (executed guest v past))
    (executed guest v past) now (λ e xs turn. or_right (is_halted_of v e) (halted v xs)))
    now

room_case : (guest : Guest) (v : ℕ) (new : List Event) (o : Option Op)
    → (o ≡ Some op.Halt → halted v new ≡ true) → AreFullInside guest new → HoldsAt guest (call_after_op v o) new
room_case guest v new None halts it = it
room_case guest v new (Some op.Halt) halts it = (it, halts refl)
room_case guest v new (Some o) halts it = it

full_case : (guest : Guest) (full : Bool) (a b : Point) → HoldsThere guest a → HoldsThere guest b
    → HoldsThere guest (cond full a b)
full_case guest true a b h k = h
full_case guest false a b h k = k

-- what the block of a vCPU that is to execute leaves
vcpu_keeps : (guest : Guest) (past : List Event) (v : ℕ) → IsValid guest → IsLegalSoFar guest past
    → AwaitsOp guest past v → AreFullInside guest past → HoldsThere guest (vcpu_block guest v past)
vcpu_keeps guest past v valid legal awaits it =
    full_case guest (is_full guest v past) (point (reap v) (exited guest v past))
    (point (call_after_op v (operation guest v (ops v past))) (after_op guest v past))
    (full_exits guest past v awaits.answered it)
    (room_case guest v (after_op guest v past) (operation guest v (ops v past)) (halt_halts guest past v)
    (op_keeps guest past v valid legal awaits it))

-- the exit of a kicked vCPU
kicked_exits : (guest : Guest) (past : List Event) (v : ℕ) → IsLegalSoFar guest past → AwaitsExit guest past v
    → AreFullInside guest past → AreFullInside guest (exited guest v past)
kicked_exits guest past v legal awaits it =
    exit_keeps guest past v
    (λ none.
    absurd
    (both_ways (kicked v past) (answered_unkicked guest past v awaits.vcpu legal none) awaits.kicked)) it

-- what the block leaves where the advance waits
wait_keeps : (guest : Guest) (starts : ℕ → ℕ) (past : List Event) (a : Advance) → IsValid guest
    → IsLegalSoFar guest past → AreDepositedUpTo guest starts past → AreFullInside guest past → IsWait a
    → Awaits guest past a → HoldsThere guest (due_block guest past (a, past))
wait_keeps guest starts past (advance.NotPaced v done) valid legal step it is awaits =
    vcpu_keeps guest past v valid legal awaits it
wait_keeps guest starts past (advance.NotOut v) valid legal step it is awaits =
    kicked_exits guest past v legal awaits it
wait_keeps guest starts past (advance.NotReset v k) valid legal step it is awaits =
    reap_keeps guest None starts past valid legal step (λ none u lt not. absurd (true≢false not)) it.still
wait_keeps guest starts past advance.NotFlushed valid legal step it is awaits =
    record { inside = it.inside; still = it.still }
wait_keeps guest starts past advance.Finished valid legal step it is awaits = it
wait_keeps guest starts past advance.Budget valid legal step it is awaits = it
wait_keeps guest starts past a valid legal step it is awaits = absurd is

-- where a round is answered all that was opened is reset
answer_unused : (guest : Guest) (past : List Event) (r v : ℕ) → IsLegalSoFar guest past
    → AnswerDue guest past r → AreFullInside guest past → v < vcpu_count guest → used v past ≡ 0
unfolding first_unreset
answer_unused guest past r v legal due it lt =
    let opened : opens v past ≤ opens v (before is_asked past) = it.still (ap is_some due.asked) v in
    let reset : opens v (before is_asked past) ≤ resets v past =
    ltb-false (resets v past) (opens v (before is_asked past))
    (first_none (λ u. nat_lt (resets u past) (opens u (before is_asked past))) (vcpu_count guest) due.reset v
    lt) in
    let pushed : pushes v past ≤ opens v past = pushed_opened guest past v legal in
    omega (arith, opened, reset, pushed)

throttles_keep : (guest : Guest) (n : ℕ) (past : List Event) → AreFullInside guest past
    → AreFullInside guest (throttled_after guest n past)
throttles_keep guest zero past it = it
throttles_keep guest (suc n) past it =
    let before = throttles_keep guest n past it in
    record { inside = before.inside; still = before.still }

-- the answer of a round
answer_keeps : (guest : Guest) (past : List Event) (r now : ℕ) → IsValid guest → IsLegalSoFar guest past
    → AnswerDue guest past r → AreFullInside guest past → AreFullInside guest (answered_after guest r now past)
answer_keeps guest past r now valid legal due it =
    let answer : List Event = Synced r now (dirty_pages guest past) ∷ past in
    let here : AreFullInside guest answer = record {
      inside = λ none v lt. unused_inside guest past v valid (answer_unused guest past r v legal due it lt);
      still = λ some. absurd (false≢true some);
    } in
    by_test (AreFullInside guest) (nat_le 1 guest.settings.quota && not (stopped past))
    (throttled_after guest (vcpu_count guest) answer) answer (throttles_keep guest (vcpu_count guest) answer here)
    here

-- a round that is asked
ask_keeps : (guest : Guest) (past : List Event) (r : ℕ) → AreFullInside guest (Asked r ∷ past)
ask_keeps guest past r = record { inside = λ none. cc; still = λ some v. omega arith }

-- what the block leaves that the next advance calls for
due_keeps : (guest : Guest) (now : ℕ) (starts : ℕ → ℕ) (past : List Event) → IsValid guest
    → IsLegalSoFar guest past → AreDepositedUpTo guest starts past → AreFullInside guest past
    → HoldsThere guest (due_block guest past (advanced guest now past))
due_keeps guest now starts past valid legal step it =
    advanced_cases
    (λ (p : Advance × List Event). Awaits guest past p.0 → HoldsThere guest (due_block guest past p)) guest now
    past (record {
      waits = λ a is. wait_keeps guest starts past a valid legal step it is;
      starts = λ due awaits. record { inside = it.inside; still = it.still };
      answers = λ r due awaits. answer_keeps guest past r now valid legal due it;
      copies = λ page due alone awaits. record { inside = it.inside; still = it.still };
      blanks = λ page n due zeros awaits.
          run_on (AreFullInside guest) (round_of (last_synced past)) page (suc n) past it
          (λ q xs so. record { inside = so.inside; still = so.still });
      asks_last = λ on stop fresh awaits. ask_keeps guest past (asks past + 1);
      switches = λ on stop asked awaits. record { inside = it.inside; still = it.still };
      stops = λ on runs few awaits. record { inside = it.inside; still = it.still };
      asks_first = λ on runs none more awaits. ask_keeps guest past (asks past + 1);
      asks_later = λ on runs many more some paced awaits. ask_keeps guest past (asks past + 1);
    }) (advance_awaits guest now past legal)

-- what the next block leaves
pub block_keeps : (guest : Guest) (now : ℕ) (starts : ℕ → ℕ) (call : Call) (past : List Event) → IsValid guest
    → IsLegalSoFar guest past → AreDepositedUpTo guest starts past → HoldsAt guest call past
    → HoldsThere guest (block guest now call past)
block_keeps guest now starts rest past valid legal step it = due_keeps guest now starts past valid legal step it
block_keeps guest now starts (reap v) past valid legal step it = full_reaped guest starts past v valid legal step it
block_keeps guest now starts (leave v) past valid legal step it = exit_keeps guest past v (λ none. it.1) it.0
