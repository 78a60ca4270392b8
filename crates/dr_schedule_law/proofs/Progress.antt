-- Each block makes the events more.
use Rattle.std.proofs.Common.{◌≡◌, ℕ, zero, suc, ◌<◌, ◌≤◌, true, List, Option, Some, None, is_some, refl, ap, sym, ◌∙◌, arith, length}
use Rattle.std.specs.Prelude.{nat_lt}
use Rattle.std.proofs.lemmas.Bool.{ltb-true, leb-true, le-leb}
use Rattle.dr_types.specs.declared.guest.Guest.{Guest}
use Rattle.dr_types.specs.Pages.{soft_limit}
use Rattle.dr_types.specs.Scripts.{operation, vcpu_count}
use Rattle.dr_types.specs.Validity.{IsValid}
use Rattle.dr_history.specs.declared.event.Event.{Event}
use Rattle.dr_history.specs.Entries.{opens, pushes, resets, used}
use Rattle.dr_history.specs.Execution.{ops}
use Rattle.dr_history.specs.Kinds.{is_asked}
use Rattle.dr_history.specs.Legality.{IsLegalSoFar}
use Rattle.dr_history.specs.Lookback.{before}
use Rattle.dr_history.specs.Vcpus.{in_guest, is_full, kicked}
use Rattle.dr_history_law.specs.Room.{unpushed}
use Rattle.dr_turns.specs.Buffers.{pushed_after, all_pushed}
use Rattle.dr_turns.specs.Firsts.{first_kicked, first_unreset}
use Rattle.dr_turns.specs.Turns.{executed, after_op, after_exit}
use Rattle.dr_turns_law.proofs.Buffers.{own_pushes}
use Rattle.dr_turns_law.proofs.Executing.{by_executed}
use Rattle.dr_turns_law.proofs.Found.{first_none, first_some}
use Rattle.dr_schedule_law.specs.Reaps.{is_reaped, AreDepositedUpTo, reaped}
use Rattle.dr_schedule_law.specs.Schedule.{exited}
use Rattle.dr_schedule_law.proofs.Exiting.{no_op}
use Rattle.dr_schedule_law.proofs.Extending.{extends_strictly, reap_extends}
use Rattle.dr_schedule_law.proofs.Outside.{unkicked_pushed}
use Rattle.dr_schedule_law.proofs.Reaped.{reap_uses_none}
use Rattle.dr_schedule_law.proofs.Reaping.{by_test}

-- the buffer's pushes are no fewer events
pushed_longer : (v n : ℕ) (past : List Event) → length past ≤ length (pushed_after v n past)
pushed_longer v zero past = omega arith
pushed_longer v (suc n) past = let before = pushed_longer v n past in omega (arith, before)

-- what a vCPU executes is more
pub executed_more : (guest : Guest) (past : List Event) (v : ℕ)
    → is_some (operation guest v (ops v past)) ≡ true → length past < length (executed guest v past)
executed_more guest past v some =
    by_executed (λ (xs : List Event). length past < length xs) guest past v
    (λ none. absurd (no_op (operation guest v (ops v past)) some none))
    (λ e is. omega arith)
    (λ e page is. omega arith)
    (λ e page is. omega arith)

-- an op makes the events more
pub op_more : (guest : Guest) (past : List Event) (v : ℕ) → is_some (operation guest v (ops v past)) ≡ true
    → length past < length (after_op guest v past)
op_more guest past v some =
    let more = executed_more guest past v some in
    by_test (λ (xs : List Event). length past < length xs) _ (all_pushed v (executed guest v past))
    (executed guest v past)
    (let longer = pushed_longer v (unpushed v (executed guest v past)) (executed guest v past) in
    omega (arith, more, longer)) more

-- an exit makes them more
pub exit_more : (guest : Guest) (past : List Event) (v : ℕ) → length past < length (after_exit guest v past)
exit_more guest past v = let longer = pushed_longer v (unpushed v past) past in omega (arith, longer)

-- an exit that does nothing where the vCPU is out makes them no fewer
pub exited_longer : (guest : Guest) (past : List Event) (v : ℕ) → length past ≤ length (exited guest v past)
exited_longer guest past v =
    by_test (λ (xs : List Event). length past ≤ length xs) (in_guest v past) (after_exit guest v past) past
    (let more = exit_more guest past v in omega (arith, more)) (omega arith)

-- a reap makes them more, where some entry is used of a vCPU that is reaped
pub reap_more : (guest : Guest) (whose : Option ℕ) (starts : ℕ → ℕ) (past : List Event) (v : ℕ)
    → IsLegalSoFar guest past → AreDepositedUpTo guest starts past → v < vcpu_count guest
    → is_reaped whose v ≡ true → resets v past < pushes v past
    → length past < length (reaped guest whose past)
reap_more guest whose starts past v legal step lt is some =
    extends_strictly past (reaped guest whose past) (reap_extends guest whose past)
    (λ same.
    let none : used v (reaped guest whose past) ≡ 0 = reap_uses_none guest whose starts past v legal step lt
    is in
    let too : used v past ≡ 0 = ap (used v) (sym same) ∙ none in
    omega (arith, too, some))

-- where no vCPU is kicked and something that was opened before the last Asked isn't reset
pub reap_more_when_unreset : (guest : Guest) (starts : ℕ → ℕ) (past : List Event) (v : ℕ)
    → IsLegalSoFar guest past → AreDepositedUpTo guest starts past → first_kicked guest past ≡ None
    → first_unreset guest past ≡ Some v → length past < length (reaped guest None past)
unfolding first_kicked first_unreset
reap_more_when_unreset guest starts past v legal step out unreset =
    let found = first_some (λ u. nat_lt (resets u past) (opens u (before is_asked past))) (vcpu_count guest)
    v unreset in
    let opened : resets v past < opens v (before is_asked past) =
    ltb-true (resets v past) (opens v (before is_asked past)) found.0 in
    let pushed : opens v (before is_asked past) ≤ pushes v past =
    unkicked_pushed guest past v legal (first_none (λ u. kicked u past) (vcpu_count guest) out v found.1) in
    reap_more guest None starts past v legal step found.1 refl (omega (arith, opened, pushed))

-- where a vCPU's ring is full that is reaped
pub reap_more_when_full : (guest : Guest) (whose : Option ℕ) (starts : ℕ → ℕ) (past : List Event) (v : ℕ)
    → IsValid guest → IsLegalSoFar guest past → AreDepositedUpTo guest starts past → v < vcpu_count guest
    → is_reaped whose v ≡ true → is_full guest v past ≡ true
    → length past < length (reaped guest whose past)
reap_more_when_full guest whose starts past v valid legal step lt is full =
    let many : soft_limit guest ≤ used v past = leb-true (soft_limit guest) (used v past) full in
    let room = valid.settings.room in
    reap_more guest whose starts past v legal step lt is (omega (arith, many, room))

resets_pushed : (v u n : ℕ) (past : List Event) → resets u (pushed_after v n past) ≡ resets u past
resets_pushed v u zero past = refl
resets_pushed v u (suc n) past = resets_pushed v u n past

-- a full ring is full after the vCPU's exit
pub full_exited : (guest : Guest) (past : List Event) (v : ℕ) → is_full guest v past ≡ true
    → is_full guest v (exited guest v past) ≡ true
full_exited guest past v full =
    by_test (λ (xs : List Event). is_full guest v xs ≡ true) (in_guest v past) (after_exit guest v past) past
    (let many : soft_limit guest ≤ used v past = leb-true (soft_limit guest) (used v past) full in
    le-leb (soft_limit guest) (used v (all_pushed v past))
    (omega (arith, many, own_pushes v (unpushed v past) past, resets_pushed v v (unpushed v past) past))) full
