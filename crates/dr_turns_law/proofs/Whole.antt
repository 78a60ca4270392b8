-- The advance that is due breaks no rule, leaves nothing owed and no buffer full, and leaves the entries alone.
use Rattle.std.proofs.Common.{◌≡◌, ℕ, zero, suc, ◌+◌, ◌≤◌, Bool, true, false, cond, List, ◌∷◌, refl, subst, arith}
use Rattle.std.specs.Prelude.{◌&&◌, not, nat_le}
use Rattle.std.specs.List.{list_any}
use Rattle.std.proofs.lemmas.Bool.{and_parts, leb-true, not-true}
use Rattle.dr_types.specs.declared.guest.Guest.{Guest}
use Rattle.dr_types.specs.Scripts.{vcpu_count}
use Rattle.dr_types.specs.Validity.{IsValid}
use Rattle.dr_history.specs.declared.event.Event.{Event}
use Rattle.dr_history.specs.declared.event.Event.TheVariants.{Start, Asked, Synced, Copied, Throttled, Stopped, Switched}
use Rattle.dr_history.specs.Dirty.{dirty_pages}
use Rattle.dr_history.specs.Kinds.{is_switched}
use Rattle.dr_history.specs.Legality.{IsLegalSoFar}
use Rattle.dr_history.specs.Rounds.{asks, last_synced}
use Rattle.dr_history.specs.Throttles.{throttle}
use Rattle.dr_history.specs.Vcpus.{stopped}
use Rattle.dr_history_law.specs.Cover.{CoversOpened}
use Rattle.dr_history_law.proofs.Cover.{covers_opened}
use Rattle.dr_event_law.specs.May.{MayFollow}
use Rattle.dr_turns.specs.declared.answers.Advance.{Advance}
use Rattle.dr_turns.specs.declared.answers.Advance.TheVariants as advance
use Rattle.dr_turns.specs.Between.{AtTurnsEnd}
use Rattle.dr_turns.specs.Due.{advanced, throttled_after, answered_after, zeros_to_copy, copies_from, round_of}
use Rattle.dr_turns_law.proofs.Starting.{start_follows, start_ends}
use Rattle.dr_turns_law.specs.Advances.{IsAdvance, SameEntries}
use Rattle.dr_turns_law.proofs.Answering.{asked_here, answer_follows, throttle_follows, answered_ends}
use Rattle.dr_turns_law.proofs.Copying.{copy_follows, copy_ends}
use Rattle.dr_turns_law.proofs.Going.{stop_follows, stop_ends, switch_follows, switch_ends, ask_last_follows, ask_first_follows, ask_later_follows, ask_ends}
use Rattle.dr_turns_law.proofs.Cases.{AnswerDue, CopyDue, IsWait, advanced_cases}
use Rattle.dr_turns_law.proofs.Together.{run_keeps, run_on}

-- an event that breaks no rule goes on a legal history
legal_on : (guest : Guest) (past : List Event) (e : Event) → MayFollow guest past e → IsLegalSoFar guest past → IsLegalSoFar guest (e ∷ past)
legal_on guest past e may legal = (may.kept, legal)

throttles_legal : (guest : Guest) (past : List Event) (r now n : ℕ) → n ≤ vcpu_count guest → IsLegalSoFar guest (Synced r now (dirty_pages guest past) ∷ past) → AtTurnsEnd guest past → list_any is_switched past ≡ false → 1 ≤ guest.settings.quota → stopped past ≡ false → IsLegalSoFar guest (throttled_after guest n (Synced r now (dirty_pages guest past) ∷ past))
throttles_legal guest past r now zero le legal end here some runs = legal
throttles_legal guest past r now (suc n) le legal end here some runs =
    let so_far = throttles_legal guest past r now n (omega (arith, le)) legal end here some runs in
    legal_on guest (throttled_after guest n (Synced r now (dirty_pages guest past) ∷ past)) _ (throttle_follows guest past r now n so_far end here some runs (omega (arith, le))) so_far

after_case : (test : Bool) (guest : Guest) (past : List Event) (r now : ℕ) → (nat_le 1 guest.settings.quota && not (stopped past)) ≡ test → IsLegalSoFar guest (Synced r now (dirty_pages guest past) ∷ past) → AtTurnsEnd guest past → list_any is_switched past ≡ false → IsLegalSoFar guest (cond test (throttled_after guest (vcpu_count guest) (Synced r now (dirty_pages guest past) ∷ past)) (Synced r now (dirty_pages guest past) ∷ past))
after_case true guest past r now is legal end here =
    let parts = and_parts (nat_le 1 guest.settings.quota) (not (stopped past)) is in
    throttles_legal guest past r now (vcpu_count guest) (omega arith) legal end here (leb-true 1 guest.settings.quota parts.0) (not-true (stopped past) parts.1)
after_case false guest past r now is legal end here = legal

-- the answer and its throttles break no rule
pub answered_legal : (guest : Guest) (past : List Event) (r now : ℕ) → IsLegalSoFar guest past → AtTurnsEnd guest past → AnswerDue guest past r → IsLegalSoFar guest (answered_after guest r now past)
answered_legal guest past r now legal end due =
    after_case (nat_le 1 guest.settings.quota && not (stopped past)) guest past r now refl
    (legal_on guest past (Synced r now (dirty_pages guest past)) (answer_follows guest past r now legal end due.asked due.out due.reset due.flushed) legal)
    end (asked_here guest past legal (rw due.asked refl))

-- pages of zeros that are copied together break no rule, and after each nothing is owed
pub run_stands : (guest : Guest) (past : List Event) (page n : ℕ) → CopyDue guest past page → n ≤ zeros_to_copy guest past page → IsLegalSoFar guest past → AtTurnsEnd guest past → IsLegalSoFar guest (copies_from (round_of (last_synced past)) page n past) × AtTurnsEnd guest (copies_from (round_of (last_synced past)) page n past)
run_stands guest past page n due le legal end =
    run_keeps (λ (xs : List Event). IsLegalSoFar guest xs × AtTurnsEnd guest xs) guest past page n due le (legal, end)
    (λ xs q here so. (
      legal_on guest xs (Copied (round_of (last_synced xs)) q) (copy_follows guest xs q so.0 so.1 here.answered here.next) so.0,
      copy_ends guest xs q so.0 so.1 here.answered here.next,
    ))

-- what the advance appends breaks no rule
pub advanced_legal : (guest : Guest) (now : ℕ) (past : List Event) → IsLegalSoFar guest past → AtTurnsEnd guest past → IsLegalSoFar guest (advanced guest now past).1
advanced_legal guest now past legal end =
    advanced_cases (λ (p : Advance × List Event). IsLegalSoFar guest p.1) guest now past (record {
      waits = λ a is. legal;
      starts = λ due. legal_on guest past (Start now) (start_follows guest past now legal end due.fresh due.paced) legal;
      answers = λ r due. answered_legal guest past r now legal end due;
      copies = λ page due alone. legal_on guest past (Copied (round_of (last_synced past)) page) (copy_follows guest past page legal end due.answered due.next) legal;
      blanks = λ page n due zeros. (run_stands guest past page (suc n) due (omega (arith, zeros)) legal end).0;
      asks_last = λ on stop fresh. legal_on guest past (Asked (asks past + 1)) (ask_last_follows guest past legal end on.answered on.here stop fresh) legal;
      switches = λ on stop asked. legal_on guest past Switched (switch_follows guest past legal end on.answered on.copied on.here stop asked) legal;
      stops = λ on runs few. legal_on guest past Stopped (stop_follows guest past legal end on.answered on.here runs few) legal;
      asks_first = λ on runs none more. legal_on guest past (Asked (asks past + 1)) (ask_first_follows guest past legal end on.begun on.answered on.here runs none more) legal;
      asks_later = λ on runs many more some paced. legal_on guest past (Asked (asks past + 1)) (ask_later_follows guest past legal end on.begun on.answered on.copied on.here runs many more some paced) legal;
    })

-- after the advance nothing is owed, and no buffer is full, whatever guest it is
pub advance_ends : (guest : Guest) (now : ℕ) (past : List Event) → IsLegalSoFar guest past → AtTurnsEnd guest past → AtTurnsEnd guest (advanced guest now past).1
advance_ends guest now past legal end =
    advanced_cases (λ (p : Advance × List Event). AtTurnsEnd guest p.1) guest now past (record {
      waits = λ a is. end;
      starts = λ due. start_ends guest past now legal end due.fresh;
      answers = λ r due. answered_ends guest past r now legal end due.asked due.out due.reset due.flushed;
      copies = λ page due alone. copy_ends guest past page legal end due.answered due.next;
      blanks = λ page n due zeros. (run_stands guest past page (suc n) due (omega (arith, zeros)) legal end).1;
      asks_last = λ on stop fresh. ask_ends guest past end on.here;
      switches = λ on stop asked. switch_ends guest past legal end on.answered on.copied on.here stop asked;
      stops = λ on runs few. stop_ends guest past legal end on.answered on.here runs few;
      asks_first = λ on runs none more. ask_ends guest past end on.here;
      asks_later = λ on runs many more some paced. ask_ends guest past end on.here;
    })

-- after the advance of a valid guest nothing is owed, and no buffer is full
pub advanced_ends : (guest : Guest) (now : ℕ) (past : List Event) → IsValid guest → IsLegalSoFar guest past → AtTurnsEnd guest past → AtTurnsEnd guest (advanced guest now past).1
advanced_ends guest now past valid legal end = advance_ends guest now past legal end

throttles_keep : (P : List Event → Type 0) (guest : Guest) (answer : List Event) (n : ℕ) → P answer → ((e : Event) (xs : List Event) → IsAdvance e → P xs → P (e ∷ xs)) → P (throttled_after guest n answer)
throttles_keep P guest answer zero h on = h
throttles_keep P guest answer (suc n) h on = on (Throttled n (throttle guest n (throttled_after guest n answer)).us) (throttled_after guest n answer) tt (throttles_keep P guest answer n h on)

keep_case : (P : List Event → Type 0) (test : Bool) (a b : List Event) → P a → P b → P (cond test a b)
keep_case P true a b h k = h
keep_case P false a b h k = k

answer_keeps : (P : List Event → Type 0) (guest : Guest) (past : List Event) (r now : ℕ) → P past → ((e : Event) (xs : List Event) → IsAdvance e → P xs → P (e ∷ xs)) → P (answered_after guest r now past)
answer_keeps P guest past r now h on =
    let answer : P (Synced r now (dirty_pages guest past) ∷ past) = on (Synced r now (dirty_pages guest past)) past tt h in
    keep_case P (nat_le 1 guest.settings.quota && not (stopped past)) (throttled_after guest (vcpu_count guest) (Synced r now (dirty_pages guest past) ∷ past)) (Synced r now (dirty_pages guest past) ∷ past)
    (throttles_keep P guest (Synced r now (dirty_pages guest past) ∷ past) (vcpu_count guest) answer on) answer

-- what each event of the migrator keeps, the advance keeps
pub by_advanced : (P : List Event → Type 0) (guest : Guest) (now : ℕ) (past : List Event) → P past → ((e : Event) (xs : List Event) → IsAdvance e → P xs → P (e ∷ xs)) → P (advanced guest now past).1
by_advanced P guest now past h on =
    advanced_cases (λ (p : Advance × List Event). P p.1) guest now past (record {
      waits = λ a is. h;
      starts = λ due. on (Start now) past tt h;
      answers = λ r due. answer_keeps P guest past r now h on;
      copies = λ page due alone. on (Copied (round_of (last_synced past)) page) past tt h;
      blanks = λ page n due zeros. run_on P (round_of (last_synced past)) page (suc n) past h (λ q xs so. on (Copied (round_of (last_synced past)) q) xs tt so);
      asks_last = λ _ stop fresh. on (Asked (asks past + 1)) past tt h;
      switches = λ _ stop asked. on Switched past tt h;
      stops = λ _ runs few. on Stopped past tt h;
      asks_first = λ _ runs none more. on (Asked (asks past + 1)) past tt h;
      asks_later = λ _ runs many more some paced. on (Asked (asks past + 1)) past tt h;
    })

same_on : (past : List Event) (e : Event) (xs : List Event) → IsAdvance e → SameEntries past xs → SameEntries past (e ∷ xs)
same_on past (Start at) xs is same = record { opened = same.opened; pushed = same.pushed; deposited = same.deposited; reset = same.reset }
same_on past (Asked r) xs is same = record { opened = same.opened; pushed = same.pushed; deposited = same.deposited; reset = same.reset }
same_on past (Synced r at pages) xs is same = record { opened = same.opened; pushed = same.pushed; deposited = same.deposited; reset = same.reset }
same_on past (Copied r page) xs is same = record { opened = same.opened; pushed = same.pushed; deposited = same.deposited; reset = same.reset }
same_on past (Throttled v us) xs is same = record { opened = same.opened; pushed = same.pushed; deposited = same.deposited; reset = same.reset }
same_on past Stopped xs is same = record { opened = same.opened; pushed = same.pushed; deposited = same.deposited; reset = same.reset }
same_on past Switched xs is same = record { opened = same.opened; pushed = same.pushed; deposited = same.deposited; reset = same.reset }
same_on past e xs is same = absurd is

-- the advance opens, pushes, deposits and resets nothing
pub advanced_is_aside : (guest : Guest) (now : ℕ) (past : List Event) → SameEntries past (advanced guest now past).1
advanced_is_aside guest now past =
    by_advanced (SameEntries past) guest now past (record { opened = λ v. refl; pushed = λ v. refl; deposited = λ v k. refl; reset = λ v. refl }) (same_on past)

no_answer : (a : Advance) (r n : ℕ) (past : List Event) → IsWait a → a ≡ advance.Answered r n → CoversOpened past
no_answer a r n past is h = absurd (subst IsWait h is)

-- where the advance answers a round, each entry that was opened before that was asked is reset, with a flush after its reset
pub answered_covers : (guest : Guest) (now : ℕ) (past : List Event) (r n : ℕ) → IsLegalSoFar guest past → AtTurnsEnd guest past → (advanced guest now past).0 ≡ advance.Answered r n → CoversOpened past
answered_covers guest now past r n legal end =
    advanced_cases (λ (p : Advance × List Event). p.0 ≡ advance.Answered r n → CoversOpened past) guest now past (record {
      waits = λ a is h. no_answer a r n past is h;
      starts = λ due h. cc;
      answers = λ round due h.
          covers_opened guest past round now (dirty_pages guest past)
          (legal_on guest past (Synced round now (dirty_pages guest past)) (answer_follows guest past round now legal end due.asked due.out due.reset due.flushed) legal);
      copies = λ page due alone h. cc;
      blanks = λ page n due zeros h. cc;
      asks_last = λ _ stop fresh h. cc;
      switches = λ _ stop asked h. cc;
      stops = λ _ runs few h. cc;
      asks_first = λ _ runs none more h. cc;
      asks_later = λ _ runs many more some paced h. cc;
    })
