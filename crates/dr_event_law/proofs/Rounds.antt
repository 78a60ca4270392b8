-- What the rounds leave.
use Rattle.std.proofs.Common.{◌≡◌, ℕ, ◌+◌, ◌<◌, ◌≤◌, Bool, true, false, cond, List, [], ◌∷◌, is_some, refl, sym, ◌∙◌, arith}
use Rattle.std.specs.Prelude.{◌&&◌, not, Option, Some, None}
use Rattle.std.specs.List.{list_any}
use Rattle.std.proofs.lemmas.Bool.{true≢false, false≢true, and_parts, not-true, leb-true}
use Rattle.dr_types.specs.declared.guest.Guest.{Guest}
use Rattle.dr_history.specs.declared.event.Event.{Event}
use Rattle.dr_history.specs.declared.event.Event.TheVariants.{Start, Asked, Synced, Stopped, Switched}
use Rattle.dr_history.specs.Lookback.{since}
use Rattle.dr_history.specs.Kinds.{is_stopped, is_asked, is_synced, is_switched}
use Rattle.dr_history.specs.Protection.{started}
use Rattle.dr_history.specs.Vcpus.{stopped}
use Rattle.dr_history.specs.Rounds.{asks, unanswered, last_synced, few_answered}
use Rattle.dr_history.specs.Rules.{stops_when_few, asks_in_turn, switches_when_copied, may_ask}
use Rattle.dr_history.specs.Legality.{IsLegalSoFar, broken}
use Rattle.dr_history_law.proofs.Kept.{keeps, asks_facts, syncs_facts}
use Rattle.dr_history_law.proofs.Switch.{number_some, unanswered_started}
use Rattle.dr_event_law.proofs.Outside.{at_switch}

both_ways : (b : Bool) → b ≡ true → b ≡ false → ⊥
both_ways b t f = true≢false (sym t ∙ f)

not_true : (b : Bool) → (b ≡ true → ⊥) → b ≡ false
not_true true f = absurd (f refl)
not_true false f = refl

-- an answer comes after Start
pub synced_started : (guest : Guest) (past : List Event) → IsLegalSoFar guest past → is_some (last_synced past) ≡ true → started past ≡ true
synced_started guest [] legal h = absurd (false≢true h)
synced_started guest (Synced r at pages ∷ past) legal h = unanswered_started guest past legal.1 (number_some r (unanswered past) (syncs_facts guest past r at pages legal.0).asked)
synced_started guest (Start at ∷ past) legal h = refl
synced_started guest (e ∷ past) legal h = synced_started guest past legal.1 h

few_some : (guest : Guest) (o : Option (Event × List Event)) → few_answered guest o ≡ true → is_some o ≡ true
few_some guest None h = absurd (false≢true h)
few_some guest (Some s) h = refl

stop_few : (guest : Guest) (past : List Event) → broken guest past Stopped ≡ None → few_answered guest (last_synced past) ≡ true
unfolding stops_when_few
stop_few guest past h = (and_parts _ _ (keeps guest past Stopped h).stops_when_few_holds).1

-- the stop comes after Start
pub stopped_started : (guest : Guest) (past : List Event) → IsLegalSoFar guest past → stopped past ≡ true → started past ≡ true
stopped_started guest [] legal h = absurd (false≢true h)
stopped_started guest (Stopped ∷ past) legal h = synced_started guest past legal.1 (few_some guest (last_synced past) (stop_few guest past legal.0))
stopped_started guest (Start at ∷ past) legal h = refl
stopped_started guest (e ∷ past) legal h = stopped_started guest past legal.1 h

-- before Start there is no switch-over
pub unstarted_here : (guest : Guest) (past : List Event) → IsLegalSoFar guest past → started past ≡ false → list_any is_switched past ≡ false
unstarted_here guest past legal h =
    not_true (list_any is_switched past) (λ s.
    both_ways (started past) (at_switch guest past (λ (xs : List Event). started xs ≡ true) legal s (λ earlier before _ facts. stopped_started guest earlier before facts.stopped)) h)

switch_answered : (guest : Guest) (past : List Event) → broken guest past Switched ≡ None → is_some (unanswered past) ≡ false
unfolding switches_when_copied
switch_answered guest past h = not-true (is_some (unanswered past)) (and_parts _ _ (and_parts _ _ (keeps guest past Switched h).switches_when_copied_holds).0).1

-- while an Asked has no answer there is no switch-over
pub asked_here : (guest : Guest) (past : List Event) → IsLegalSoFar guest past → is_some (unanswered past) ≡ true → list_any is_switched past ≡ false
asked_here guest past legal h =
    not_true (list_any is_switched past) (λ s.
    both_ways (is_some (unanswered past)) h (at_switch guest past (λ (xs : List Event). is_some (unanswered xs) ≡ false) legal s (λ earlier before kept _. switch_answered guest earlier kept)))

-- the answer came after the stop
abbrev pub opened_stop : Option (Event × List Event) → Bool
opened_stop None = false
opened_stop (Some synced) = stopped synced.1

-- the last answer after the stop opened a round
pub open_stop : (past : List Event) → stopped past ≡ true → list_any is_synced (since is_stopped past) ≡ true → opened_stop (last_synced past) ≡ true
open_stop [] s h = absurd (false≢true s)
open_stop (Stopped ∷ past) s h = absurd (false≢true h)
open_stop (Synced r at pages ∷ past) s h = s
open_stop (e ∷ past) s h = open_stop past s h

-- where what was asked after the stop is answered, an answer came since
pub answered_since : (past : List Event) → stopped past ≡ true → list_any is_asked (since is_stopped past) ≡ true → is_some (unanswered past) ≡ false → list_any is_synced (since is_stopped past) ≡ true
answered_since [] s a u = absurd (false≢true s)
answered_since (Stopped ∷ past) s a u = absurd (false≢true a)
answered_since (Asked r ∷ past) s a u = absurd (true≢false u)
answered_since (Synced r at pages ∷ past) s a u = refl
answered_since (e ∷ past) s a u = answered_since past s a u

-- where all that was asked is answered, there is a last answer
pub asked_synced : (past : List Event) → 0 < asks past → is_some (unanswered past) ≡ false → is_some (last_synced past) ≡ true
asked_synced [] h u = absurd (omega arith)
asked_synced (Asked r ∷ past) h u = absurd (true≢false u)
asked_synced (Synced r at pages ∷ past) h u = refl
asked_synced (e ∷ past) h u = asked_synced past h u

-- no more is asked than the rounds and one after the stop
asks_case : (s a : Bool) (n rounds : ℕ) (may : Bool) → n ≤ rounds + cond (s && a) 1 0 → (cond s (not a) may) ≡ true → (s ≡ false → may ≡ true → n + 1 ≤ rounds) → n + 1 ≤ rounds + cond (s && true) 1 0
asks_case true true n rounds may h k f = absurd (false≢true k)
asks_case true false n rounds may h k f = omega arith
asks_case false a n rounds may h k f = let le : n + 1 ≤ rounds = f refl k in omega arith

ask_turn : (guest : Guest) (past : List Event) (r : ℕ) → broken guest past (Asked r) ≡ None → (cond (stopped past) (not (list_any is_asked (since is_stopped past))) (may_ask guest r past)) ≡ true
unfolding asks_in_turn
ask_turn guest past r h = (and_parts _ _ (keeps guest past (Asked r) h).asks_in_turn_holds).1

stop_case : (a : Bool) (n rounds : ℕ) (s : Bool) → s ≡ false → n ≤ rounds + cond (s && a) 1 0 → n ≤ rounds + 0
stop_case a n rounds true z h = absurd (true≢false z)
stop_case a n rounds false z h = h

stop_first : (guest : Guest) (past : List Event) → broken guest past Stopped ≡ None → stopped past ≡ false
unfolding stops_when_few
stop_first guest past h = not-true (stopped past) (and_parts _ _ (and_parts _ _ (keeps guest past Stopped h).stops_when_few_holds).0).0

pub asks_few : (guest : Guest) (past : List Event) → IsLegalSoFar guest past → asks past ≤ guest.settings.rounds + cond (stopped past && list_any is_asked (since is_stopped past)) 1 0
asks_few guest [] legal = omega arith
asks_few guest (Asked r ∷ past) legal =
    asks_case (stopped past) (list_any is_asked (since is_stopped past)) (asks past) guest.settings.rounds (may_ask guest r past) (asks_few guest past legal.1) (ask_turn guest past r legal.0)
    (λ s m. let e : r ≡ asks past + 1 = (asks_facts guest past r legal.0).number in let le : r ≤ guest.settings.rounds = leb-true r guest.settings.rounds (and_parts _ _ m).0 in omega (arith, e, le))
asks_few guest (Stopped ∷ past) legal = stop_case (list_any is_asked (since is_stopped past)) (asks past) guest.settings.rounds (stopped past) (stop_first guest past legal.0) (asks_few guest past legal.1)
asks_few guest (e ∷ past) legal = asks_few guest past legal.1
