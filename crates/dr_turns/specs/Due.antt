-- What advance is due, by the first of a list that applies, and the events after it.
use Rattle.std.specs.Prelude.{ℕ, zero, suc, Bool, not, ◌+◌, ◌==◌, ◌&&◌, nat_le, nat_lt}
use Rattle.std.specs.Prelude.{if◌then◌else◌, List, [], ◌∷◌, drop, length, slice_get}
use Rattle.std.specs.Prelude.{Option, Some, None, is_some}
use Rattle.std.specs.List.{list_any}
use Rattle.dr_types.specs.declared.guest.Guest.{Guest}
use Rattle.dr_types.specs.Pages.{page_count}
use Rattle.dr_types.specs.Scripts.{vcpu_count}
use Rattle.dr_history.specs.declared.event.Event.{Event}
use Rattle.dr_history.specs.declared.event.Event.TheVariants.{Start, Asked, Synced, Copied}
use Rattle.dr_history.specs.declared.event.Event.TheVariants.{Throttled, Stopped, Switched}
use Rattle.dr_history.specs.Lookback.{count, since, below}
use Rattle.dr_history.specs.Kinds.{is_op_of, is_asked, is_stopped, is_switched}
use Rattle.dr_history.specs.Protection.{started, closing}
use Rattle.dr_history.specs.Dirty.{dirty_pages}
use Rattle.dr_history.specs.Memory.{zero_page}
use Rattle.dr_history.specs.Entries.{resets}
use Rattle.dr_history.specs.Execution.{ops}
use Rattle.dr_history.specs.Throttles.{throttle}
use Rattle.dr_history.specs.Vcpus.{stopped}
use Rattle.dr_history.specs.Rounds.{asks, unanswered, last_synced, answered_round, answered_pages}
use Rattle.dr_history.specs.Rounds.{opens_round, few_answered}
use Rattle.dr_history_law.specs.Copies.{copies, pages_of}
use Rattle.dr_turns.specs.Firsts.{first_unpaced, first_kicked, first_unreset}
use Rattle.dr_turns.specs.declared.answers.Advance.{Advance}
use Rattle.dr_turns.specs.declared.answers.Advance.TheVariants as advance
use Rattle.dr_turns.specs.declared.answers.RunEnd.{RunEnd}
use Rattle.dr_turns.specs.declared.answers.RunEnd.TheVariants as end

-- 1. Logging begins where each vCPU is paced.
abbrev pub begun : ℕ → List Event → Option ℕ → Advance × List Event
begun now past None = (advance.Started, Start now ∷ past)
begun now past (Some v) = (advance.NotPaced v (ops v past), past)

-- some page was reset and waits for a flush
unfoldable pub some_closing : Guest → List Event → Bool
some_closing guest past = list_any (λ page. closing page past) (below (page_count guest))

-- the first n vCPUs are throttled
abbrev pub throttled_after : Guest → ℕ → List Event → List Event
throttled_after guest zero past = past
throttled_after guest (suc n) past =
    let before = throttled_after guest n past in
    Throttled n (throttle guest n before).us ∷ before

-- the answer, and after it a throttle for each vCPU where there is a quota and the guest runs
abbrev pub answered_after : Guest → ℕ → ℕ → List Event → List Event
answered_after guest r now past =
    let answer = Synced r now (dirty_pages guest past) ∷ past in
    if nat_le 1 guest.settings.quota && not (stopped past)
    then throttled_after guest (vcpu_count guest) answer else answer

-- 2. The round that was asked is answered, where all are out, all is reset and nothing is closing.
abbrev pub flushed_answer : Guest → ℕ → ℕ → List Event → Advance × List Event
flushed_answer guest now r past =
    if some_closing guest past then (advance.NotFlushed, past)
    else (advance.Answered r (length (dirty_pages guest past)), answered_after guest r now past)

abbrev pub reset_answer : Guest → ℕ → ℕ → List Event → Option ℕ → Advance × List Event
reset_answer guest now r past None = flushed_answer guest now r past
reset_answer guest now r past (Some v) = (advance.NotReset v (resets v past), past)

abbrev pub answered : Guest → ℕ → ℕ → List Event → Option ℕ → Advance × List Event
answered guest now r past None = reset_answer guest now r past (first_unreset guest past)
answered guest now r past (Some v) = (advance.NotOut v, past)

-- 3. The next page of an open round is copied, or where it is zero, as many pages as are zero from
-- there on and rise by one.
abbrev pub page_to_copy_of : Guest → List Event → Option (Event × List Event) → Option ℕ
page_to_copy_of guest past None = None
page_to_copy_of guest past (Some synced) =
    if opens_round guest synced.0 synced.1 then slice_get (answered_pages synced.0) (copies past)
    else None

abbrev pub page_to_copy : Guest → List Event → Option ℕ
page_to_copy guest past = page_to_copy_of guest past (last_synced past)

abbrev pub round_of : Option (Event × List Event) → ℕ
round_of None = 0
round_of (Some synced) = answered_round synced.0

-- how many of these pages, from the first on, are zero and rise by one from this number on
abbrev pub zeros_from : Guest → List Event → ℕ → List ℕ → ℕ
zeros_from guest past page [] = 0
zeros_from guest past page (q ∷ pages) =
    if q == page && zero_page guest q past then suc (zeros_from guest past (page + 1) pages) else 0

-- how many pages of zeros are to be copied together, from this page on
abbrev pub zeros_to_copy : Guest → List Event → ℕ → ℕ
zeros_to_copy guest past page =
    zeros_from guest past page (drop (copies past) (pages_of (last_synced past)))

-- so many pages are copied, from a first one on
abbrev pub copies_from : ℕ → ℕ → ℕ → List Event → List Event
copies_from r first zero past = past
copies_from r first (suc n) past = Copied r (first + n) ∷ copies_from r first n past

-- a page is copied alone, or as the first of so many pages of zeros
abbrev pub copied_together : ℕ → ℕ → ℕ → List Event → Advance × List Event
copied_together r page zero past = (advance.Copied r page, Copied r page ∷ past)
copied_together r page (suc n) past =
    (advance.Blank r page (suc n), copies_from r page (suc n) past)

-- a round is asked
abbrev pub asked : List Event → Advance × List Event
asked past = (advance.Asked (asks past + 1), Asked (asks past + 1) ∷ past)

-- 7. The next round is asked, where each vCPU is paced since the last one.
abbrev pub asked_where_paced : List Event → Option ℕ → Advance × List Event
asked_where_paced past None = asked past
asked_where_paced past (Some v) =
    (advance.NotPaced v (count (is_op_of v) (since is_asked past)), past)

abbrev pub next_round : Guest → List Event → Advance × List Event
next_round guest past =
    if asks past == 0 then asked past
    else asked_where_paced past (first_unpaced guest (since is_asked past) past)

-- 5. After the stop the last round is asked, and then the guest switches over.
abbrev pub after_stop : List Event → Advance × List Event
after_stop past =
    if list_any is_asked (since is_stopped past) then (advance.Switched, Switched ∷ past)
    else asked past

-- 4 to 8, where nothing is left to copy
abbrev pub after_copies : Guest → List Event → Advance × List Event
after_copies guest past =
    if list_any is_switched past then (advance.Finished, past)
    else if stopped past then after_stop past
    else if few_answered guest (last_synced past) then (advance.Stopping, Stopped ∷ past)
    else if nat_lt (asks past) guest.settings.rounds then next_round guest past
    else (advance.Budget, past)

abbrev pub copied : Guest → List Event → Option ℕ → Advance × List Event
copied guest past None = after_copies guest past
copied guest past (Some page) =
    copied_together (round_of (last_synced past)) page (zeros_to_copy guest past page) past

abbrev pub answered_or_copied : Guest → ℕ → List Event → Option ℕ → Advance × List Event
answered_or_copied guest now past None = copied guest past (page_to_copy guest past)
answered_or_copied guest now past (Some r) = answered guest now r past (first_kicked guest past)

-- the advance that is due: what it answers, and the events after it
unfoldable pub advanced : Guest → ℕ → List Event → Advance × List Event
advanced guest now past =
    if started past then answered_or_copied guest now past (unanswered past)
    else begun now past (first_unpaced guest past past)

-- all rounds were asked, answered and copied, and the last left too many pages
unfoldable pub is_spent : Guest → List Event → Bool
is_spent guest past =
    started past && not (is_some (unanswered past)) && not (is_some (page_to_copy guest past))
    && not (list_any is_switched past) && not (stopped past)
    && not (few_answered guest (last_synced past))
    && nat_le guest.settings.rounds (asks past)

-- where the run stands
abbrev pub run_end : Guest → List Event → RunEnd
run_end guest past =
    if list_any is_switched past then end.Switched else if is_spent guest past then end.Budget
    else end.Open
