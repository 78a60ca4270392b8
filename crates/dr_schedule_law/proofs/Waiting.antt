-- What holds where the advance waits, by what it answers.
use Rattle.std.proofs.Common.{◌≡◌, ℕ, zero, suc, Bool, true, false, cond, List, ◌∷◌, Option, Some, None, is_some, refl, ap, length}
use Rattle.std.specs.Prelude.{◌==◌, not, nat_lt, nat_le}
use Rattle.std.specs.List.{list_any}
use Rattle.std.proofs.lemmas.Bool.{or_parts, not-true, both_ways, false_from_ne_true}
use Rattle.dr_types.specs.declared.guest.Guest.{Guest}
use Rattle.dr_types.specs.Scripts.{vcpu_count}
use Rattle.dr_history.specs.declared.event.Event.{Event}
use Rattle.dr_history.specs.declared.event.Event.TheVariants.{Stopped, Switched}
use Rattle.dr_history.specs.Dirty.{dirty_pages}
use Rattle.dr_history.specs.Kinds.{is_asked, is_op_of, is_stopped, is_switched}
use Rattle.dr_history.specs.Legality.{IsLegalSoFar}
use Rattle.dr_history.specs.Lookback.{count, since}
use Rattle.dr_history.specs.Protection.{started}
use Rattle.dr_history.specs.Rounds.{asks, unanswered, last_synced, few_answered}
use Rattle.dr_history.specs.Vcpus.{halted, stopped, kicked, paced}
use Rattle.dr_history_law.proofs.Switch.{unanswered_started}
use Rattle.dr_event_law.proofs.Rounds.{stopped_started}
use Rattle.dr_turns.specs.declared.answers.Advance.{Advance}
use Rattle.dr_turns.specs.declared.answers.Advance.TheVariants as advance
use Rattle.dr_turns.specs.Due.{advanced, begun, some_closing, answered_after, reset_answer, answered, page_to_copy, zeros_to_copy, copied_together, round_of, asked, asked_where_paced, next_round, after_stop, after_copies, copied, answered_or_copied}
use Rattle.dr_turns.specs.Firsts.{first_unpaced, first_kicked, first_unreset}
use Rattle.dr_turns_law.proofs.Found.{first_some}
use Rattle.dr_schedule_law.specs.Waiting.{AwaitsOp, Awaits}
use Rattle.dr_schedule_law.proofs.Kicked.{answered_unkicked, kicked_inside}

not_none : (o : Option ℕ) → (is_some o ≡ true → ⊥) → o ≡ None
not_none None f = refl
not_none (Some x) f = absurd (f refl)

-- before Start nothing was asked
unstarted_answered : (guest : Guest) (past : List Event) → IsLegalSoFar guest past → started past ≡ false
    → unanswered past ≡ None
unstarted_answered guest past legal fresh =
    not_none (unanswered past)
    (λ some. both_ways (started past) fresh (unanswered_started guest past legal some))

-- and nothing was stopped
unstarted_running : (guest : Guest) (past : List Event) → IsLegalSoFar guest past → started past ≡ false
    → stopped past ≡ false
unstarted_running guest past legal fresh =
    false_from_ne_true (stopped past)
    (λ stop. both_ways (started past) fresh (stopped_started guest past legal stop))

-- the first vCPU that isn't paced may execute
unpaced_awaits : (guest : Guest) (recent past : List Event) (v : ℕ) → IsLegalSoFar guest past
    → unanswered past ≡ None → stopped past ≡ false → first_unpaced guest recent past ≡ Some v
    → AwaitsOp guest past v
unfolding first_unpaced
unpaced_awaits guest recent past v legal answered runs first =
    let found = first_some (λ u. not (paced guest u recent past)) (vcpu_count guest) v first in
    record {
      vcpu = found.1;
      answered = answered;
      unhalted =
          (or_parts (nat_le guest.settings.pace (count (is_op_of v) recent)) (halted v past)
          (not-true (paced guest v recent past) found.0)).1;
      running = runs;
      unkicked = answered_unkicked guest past v found.1 legal answered;
    }

-- by one test
if_case : (G : Advance × List Event → Type 0) (test : Bool) (a b : Advance × List Event)
    → (test ≡ true → G a) → (test ≡ false → G b) → G (cond test a b)
if_case G true a b f g = f refl
if_case G false a b f g = g refl

abbrev AwaitsFirst : Guest → List Event → Advance × List Event → Type 0
AwaitsFirst guest past p = Awaits guest past p.0

begun_waits : (guest : Guest) (now : ℕ) (past : List Event) (o : Option ℕ) → IsLegalSoFar guest past
    → started past ≡ false → first_unpaced guest past past ≡ o → Awaits guest past (begun now past o).0
begun_waits guest now past None legal fresh is = tt
begun_waits guest now past (Some v) legal fresh is =
    unpaced_awaits guest past past v legal (unstarted_answered guest past legal fresh)
    (unstarted_running guest past legal fresh) is

reset_waits : (guest : Guest) (now r : ℕ) (past : List Event) (o : Option ℕ) → unanswered past ≡ Some r
    → first_kicked guest past ≡ None → first_unreset guest past ≡ o
    → Awaits guest past (reset_answer guest now r past o).0
reset_waits guest now r past None is out first =
    if_case (AwaitsFirst guest past) (some_closing guest past) (advance.NotFlushed, past)
    (advance.Answered r (length (dirty_pages guest past)), answered_after guest r now past) (λ h. h)
    (λ h. tt)
reset_waits guest now r past (Some v) is out first =
    record { asked = ap (λ (o : Option ℕ). is_some o) is; out = out; first = first; number = refl }

kicked_waits : (guest : Guest) (now r : ℕ) (past : List Event) (o : Option ℕ) → unanswered past ≡ Some r
    → first_kicked guest past ≡ o → Awaits guest past (answered guest now r past o).0
unfolding first_kicked
kicked_waits guest now r past None is out =
    reset_waits guest now r past (first_unreset guest past) is out refl
kicked_waits guest now r past (Some v) is first =
    let found = first_some (λ u. kicked u past) (vcpu_count guest) v first in
    record { vcpu = found.1; kicked = found.0; inside = kicked_inside past v found.0 }

paced_waits : (guest : Guest) (past : List Event) (o : Option ℕ) → IsLegalSoFar guest past
    → unanswered past ≡ None → stopped past ≡ false → first_unpaced guest (since is_asked past) past ≡ o
    → Awaits guest past (asked_where_paced past o).0
paced_waits guest past None legal answered runs is = tt
paced_waits guest past (Some v) legal answered runs is =
    unpaced_awaits guest (since is_asked past) past v legal answered runs is

copies_waits : (guest : Guest) (past : List Event) → IsLegalSoFar guest past → unanswered past ≡ None
    → Awaits guest past (after_copies guest past).0
copies_waits guest past legal answered =
    if_case (AwaitsFirst guest past) (list_any is_switched past) (advance.Finished, past) _ (λ h. h)
    (λ h.
    if_case (AwaitsFirst guest past) (stopped past) (after_stop past) _
    (λ stop. if_case (AwaitsFirst guest past) (list_any is_asked (since is_stopped past))
    (advance.Switched, Switched ∷ past) (asked past) (λ h. tt) (λ h. tt))
    (λ runs.
    if_case (AwaitsFirst guest past) (few_answered guest (last_synced past))
    (advance.Stopping, Stopped ∷ past) _ (λ few. tt)
    (λ many.
    if_case (AwaitsFirst guest past) (nat_lt (asks past) guest.settings.rounds) (next_round guest past)
    (advance.Budget, past)
    (λ more. if_case (AwaitsFirst guest past) (asks past == 0) (asked past)
    (asked_where_paced past (first_unpaced guest (since is_asked past) past)) (λ first. tt)
    (λ later. paced_waits guest past (first_unpaced guest (since is_asked past) past) legal answered runs
    refl))
    (λ spent. tt))))

together_waits : (guest : Guest) (r page n : ℕ) (past new : List Event)
    → Awaits guest past (copied_together r page n new).0
together_waits guest r page zero past new = tt
together_waits guest r page (suc n) past new = tt

copied_waits : (guest : Guest) (past : List Event) (o : Option ℕ) → IsLegalSoFar guest past
    → unanswered past ≡ None → Awaits guest past (copied guest past o).0
copied_waits guest past None legal answered = copies_waits guest past legal answered
copied_waits guest past (Some page) legal answered =
    together_waits guest (round_of (last_synced past)) page (zeros_to_copy guest past page) past past

round_waits : (guest : Guest) (now : ℕ) (past : List Event) (o : Option ℕ) → IsLegalSoFar guest past
    → unanswered past ≡ o → Awaits guest past (answered_or_copied guest now past o).0
round_waits guest now past None legal is = copied_waits guest past (page_to_copy guest past) legal is
round_waits guest now past (Some r) legal is = kicked_waits guest now r past (first_kicked guest past) is refl

-- what the answer says holds
pub advance_awaits : (guest : Guest) (now : ℕ) (past : List Event) → IsLegalSoFar guest past
    → Awaits guest past (advanced guest now past).0
unfolding advanced
advance_awaits guest now past legal =
    if_case (AwaitsFirst guest past) (started past) (answered_or_copied guest now past (unanswered past))
    (begun now past (first_unpaced guest past past))
    (λ s. round_waits guest now past (unanswered past) legal refl)
    (λ fresh. begun_waits guest now past (first_unpaced guest past past) legal fresh refl)
