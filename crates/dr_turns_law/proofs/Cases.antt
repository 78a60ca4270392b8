-- Which advance comes, by cases: what holds where each is due, and what it answers and leaves.
use Rattle.std.proofs.Common.{◌≡◌, ℕ, zero, suc, ◌<◌, Bool, true, false, cond, List, ◌∷◌, Option, Some, None, refl, length}
use Rattle.std.specs.Prelude.{◌==◌, nat_lt}
use Rattle.std.specs.List.{list_any}
use Rattle.std.proofs.lemmas.Bool.{eqb-true, ltb-true}
use Rattle.dr_types.specs.declared.guest.Guest.{Guest}
use Rattle.dr_history.specs.declared.event.Event.{Event}
use Rattle.dr_history.specs.declared.event.Event.TheVariants.{Start, Copied, Stopped, Switched}
use Rattle.dr_history.specs.Lookback.{since}
use Rattle.dr_history.specs.Kinds.{is_asked, is_stopped, is_switched}
use Rattle.dr_history.specs.Dirty.{dirty_pages}
use Rattle.dr_history.specs.Protection.{started}
use Rattle.dr_history.specs.Rounds.{asks, unanswered, last_synced, few_answered}
use Rattle.dr_history.specs.Vcpus.{stopped}
use Rattle.dr_turns.specs.declared.answers.Advance.{Advance}
use Rattle.dr_turns.specs.declared.answers.Advance.TheVariants as advance
use Rattle.dr_turns.specs.Firsts.{first_unpaced, first_kicked, first_unreset}
use Rattle.dr_turns.specs.Due.{advanced, begun, some_closing, answered_after, reset_answer, answered, page_to_copy, zeros_to_copy, copies_from, copied_together, round_of, asked, asked_where_paced, next_round, after_stop, copied, answered_or_copied}

-- the advance appends nothing
abbrev pub IsWait : Advance → Type 0
IsWait (advance.NotPaced v done) = Unit {0}
IsWait (advance.NotOut v) = Unit {0}
IsWait (advance.NotReset v k) = Unit {0}
IsWait advance.NotFlushed = Unit {0}
IsWait advance.Finished = Unit {0}
IsWait advance.Budget = Unit {0}
IsWait a = ⊥

-- logging begins
pub record StartDue (guest : Guest) (past : List Event) : Type 0 where
  pub fresh : started past ≡ false
  pub paced : first_unpaced guest past past ≡ None

-- the round that was asked is answered
pub record AnswerDue (guest : Guest) (past : List Event) (r : ℕ) : Type 0 where
  pub begun : started past ≡ true
  pub asked : unanswered past ≡ Some r
  pub out : first_kicked guest past ≡ None
  pub reset : first_unreset guest past ≡ None
  pub flushed : some_closing guest past ≡ false

-- a page is copied, alone or with others after it
pub record CopyDue (guest : Guest) (past : List Event) (page : ℕ) : Type 0 where
  pub begun : started past ≡ true
  pub answered : unanswered past ≡ None
  pub next : page_to_copy guest past ≡ Some page

-- all that was asked is answered and copied, and the guest has not switched over
pub record GoesOn (guest : Guest) (past : List Event) : Type 0 where
  pub begun : started past ≡ true
  pub answered : unanswered past ≡ None
  pub copied : page_to_copy guest past ≡ None
  pub here : list_any is_switched past ≡ false

-- what the advances answer and leave, each where it is due
pub record AdvanceCases (guest : Guest) (now : ℕ) (past : List Event) (G : Advance × List Event → Type 0) : Type 0 where
  pub waits : (a : Advance) → IsWait a → G (a, past)
  pub starts : StartDue guest past → G (advance.Started, Start now ∷ past)
  pub answers : (r : ℕ) → AnswerDue guest past r → G (advance.Answered r (length (dirty_pages guest past)), answered_after guest r now past)
  pub copies : (page : ℕ) → CopyDue guest past page → zeros_to_copy guest past page ≡ 0 → G (advance.Copied (round_of (last_synced past)) page, Copied (round_of (last_synced past)) page ∷ past)
  pub blanks : (page n : ℕ) → CopyDue guest past page → zeros_to_copy guest past page ≡ suc n → G (advance.Blank (round_of (last_synced past)) page (suc n), copies_from (round_of (last_synced past)) page (suc n) past)
  pub asks_last : GoesOn guest past → stopped past ≡ true → list_any is_asked (since is_stopped past) ≡ false → G (asked past)
  pub switches : GoesOn guest past → stopped past ≡ true → list_any is_asked (since is_stopped past) ≡ true → G (advance.Switched, Switched ∷ past)
  pub stops : GoesOn guest past → stopped past ≡ false → few_answered guest (last_synced past) ≡ true → G (advance.Stopping, Stopped ∷ past)
  pub asks_first : GoesOn guest past → stopped past ≡ false → asks past ≡ 0 → asks past < guest.settings.rounds → G (asked past)
  pub asks_later : GoesOn guest past → stopped past ≡ false → few_answered guest (last_synced past) ≡ false → asks past < guest.settings.rounds → (asks past == 0) ≡ false → first_unpaced guest (since is_asked past) past ≡ None → G (asked past)

-- by one test
if_case : (G : Advance × List Event → Type 0) (test : Bool) (a b : Advance × List Event) → (test ≡ true → G a) → (test ≡ false → G b) → G (cond test a b)
if_case G true a b f g = f refl
if_case G false a b f g = g refl

begun_case : (G : Advance × List Event → Type 0) (guest : Guest) (now : ℕ) (past : List Event) (o : Option ℕ) → AdvanceCases guest now past G → started past ≡ false → first_unpaced guest past past ≡ o → G (begun now past o)
begun_case G guest now past None each fresh is = each.starts (record { fresh = fresh; paced = is })
begun_case G guest now past (Some v) each fresh is = each.waits (begun now past (Some v)).0 tt

reset_case : (G : Advance × List Event → Type 0) (guest : Guest) (now : ℕ) (past : List Event) (r : ℕ) (o : Option ℕ) → AdvanceCases guest now past G → started past ≡ true → unanswered past ≡ Some r → first_kicked guest past ≡ None → first_unreset guest past ≡ o → G (reset_answer guest now r past o)
reset_case G guest now past r None each begun asked out is =
    if_case G (some_closing guest past) (advance.NotFlushed, past) (advance.Answered r (length (dirty_pages guest past)), answered_after guest r now past)
    (λ h. each.waits advance.NotFlushed tt)
    (λ h. each.answers r (record { begun = begun; asked = asked; out = out; reset = is; flushed = h }))
reset_case G guest now past r (Some v) each begun asked out is = each.waits (reset_answer guest now r past (Some v)).0 tt

kicked_case : (G : Advance × List Event → Type 0) (guest : Guest) (now : ℕ) (past : List Event) (r : ℕ) (o : Option ℕ) → AdvanceCases guest now past G → started past ≡ true → unanswered past ≡ Some r → first_kicked guest past ≡ o → G (answered guest now r past o)
kicked_case G guest now past r None each begun asked is = reset_case G guest now past r (first_unreset guest past) each begun asked is refl
kicked_case G guest now past r (Some v) each begun asked is = each.waits (advance.NotOut v) tt

paced_case : (G : Advance × List Event → Type 0) (guest : Guest) (now : ℕ) (past : List Event) (o : Option ℕ) → AdvanceCases guest now past G → (o ≡ None → G (asked past)) → G (asked_where_paced past o)
paced_case G guest now past None each f = f refl
paced_case G guest now past (Some v) each f = each.waits (asked_where_paced past (Some v)).0 tt

next_case : (G : Advance × List Event → Type 0) (guest : Guest) (now : ℕ) (past : List Event) → AdvanceCases guest now past G → GoesOn guest past → stopped past ≡ false → few_answered guest (last_synced past) ≡ false → asks past < guest.settings.rounds → G (next_round guest past)
next_case G guest now past each on runs many more =
    if_case G (asks past == 0) (asked past) (asked_where_paced past (first_unpaced guest (since is_asked past) past))
    (λ h. each.asks_first on runs (eqb-true (asks past) 0 h) more)
    (λ h. paced_case G guest now past (first_unpaced guest (since is_asked past) past) each (each.asks_later on runs many more h))

stop_case : (G : Advance × List Event → Type 0) (guest : Guest) (now : ℕ) (past : List Event) → AdvanceCases guest now past G → GoesOn guest past → stopped past ≡ true → G (after_stop past)
stop_case G guest now past each on stop =
    if_case G (list_any is_asked (since is_stopped past)) (advance.Switched, Switched ∷ past) (asked past) (each.switches on stop) (each.asks_last on stop)

on_case : (G : Advance × List Event → Type 0) (guest : Guest) (now : ℕ) (past : List Event) → AdvanceCases guest now past G → GoesOn guest past → G (cond (stopped past) (after_stop past) (cond (few_answered guest (last_synced past)) (advance.Stopping, Stopped ∷ past) (cond (nat_lt (asks past) guest.settings.rounds) (next_round guest past) (advance.Budget, past))))
on_case G guest now past each on =
    if_case G (stopped past) (after_stop past) _ (stop_case G guest now past each on)
    (λ runs.
    if_case G (few_answered guest (last_synced past)) (advance.Stopping, Stopped ∷ past) _ (each.stops on runs)
    (λ many.
    if_case G (nat_lt (asks past) guest.settings.rounds) (next_round guest past) (advance.Budget, past)
    (λ h. next_case G guest now past each on runs many (ltb-true (asks past) guest.settings.rounds h))
    (λ h. each.waits advance.Budget tt)))

together_case : (G : Advance × List Event → Type 0) (guest : Guest) (now : ℕ) (past : List Event) (page n : ℕ) → AdvanceCases guest now past G → CopyDue guest past page → zeros_to_copy guest past page ≡ n → G (copied_together (round_of (last_synced past)) page n past)
together_case G guest now past page zero each due is = each.copies page due is
together_case G guest now past page (suc n) each due is = each.blanks page n due is

copied_case : (G : Advance × List Event → Type 0) (guest : Guest) (now : ℕ) (past : List Event) (o : Option ℕ) → AdvanceCases guest now past G → started past ≡ true → unanswered past ≡ None → page_to_copy guest past ≡ o → G (copied guest past o)
copied_case G guest now past None each begun answered is =
    if_case G (list_any is_switched past) (advance.Finished, past) _
    (λ h. each.waits advance.Finished tt)
    (λ h. on_case G guest now past each (record { begun = begun; answered = answered; copied = is; here = h }))
copied_case G guest now past (Some page) each begun answered is =
    together_case G guest now past page (zeros_to_copy guest past page) each (record { begun = begun; answered = answered; next = is }) refl

round_case : (G : Advance × List Event → Type 0) (guest : Guest) (now : ℕ) (past : List Event) (o : Option ℕ) → AdvanceCases guest now past G → started past ≡ true → unanswered past ≡ o → G (answered_or_copied guest now past o)
round_case G guest now past None each begun is = copied_case G guest now past (page_to_copy guest past) each begun is refl
round_case G guest now past (Some r) each begun is = kicked_case G guest now past r (first_kicked guest past) each begun is refl

-- what holds of the answer and the events of each advance that may be due holds of the one that is
pub advanced_cases : (G : Advance × List Event → Type 0) (guest : Guest) (now : ℕ) (past : List Event) → AdvanceCases guest now past G → G (advanced guest now past)
unfolding advanced
advanced_cases G guest now past each =
    if_case G (started past) (answered_or_copied guest now past (unanswered past)) (begun now past (first_unpaced guest past past))
    (λ h. round_case G guest now past (unanswered past) each h refl)
    (λ h. begun_case G guest now past (first_unpaced guest past past) each h refl)
