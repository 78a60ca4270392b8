-- What holds of a guest that runs, and of what comes after an answer.
use Rattle.std.proofs.Common.{◌≡◌, ℕ, ◌+◌, ◌≤◌, Bool, true, false, cond, List, [], ◌∷◌, ◌++◌, is_some, None, refl, sym, ◌∙◌, arith}
use Rattle.std.specs.Prelude.{◌&&◌, ◌||◌}
use Rattle.std.specs.List.{list_any}
use Rattle.std.proofs.lemmas.Bool.{true≢false, false_from_ne_true}
use Rattle.dr_types.specs.declared.guest.Guest.{Guest}
use Rattle.dr_history.specs.declared.event.Event.{Event}
use Rattle.dr_history.specs.declared.event.Event.TheVariants.{Asked, Synced}
use Rattle.dr_history.specs.Kinds.{is_asked, is_stopped, is_switched}
use Rattle.dr_history.specs.Legality.{IsLegalSoFar}
use Rattle.dr_history.specs.Lookback.{count, since}
use Rattle.dr_history.specs.Rounds.{asks, unanswered, last_synced}
use Rattle.dr_history.specs.Vcpus.{stopped}
use Rattle.dr_history_law.proofs.Answer.{asked_number}
use Rattle.dr_history_law.proofs.Earlier.{count_both, earlier_legal}
use Rattle.dr_history_law.proofs.Kept.{syncs_facts}
use Rattle.dr_history_law.proofs.Switch.{number_some}
use Rattle.dr_event_law.proofs.Outside.{at_switch}
use Rattle.dr_event_law.proofs.Rounds.{asks_few}

-- a guest that runs has not switched over
pub runs_here : (guest : Guest) (past : List Event) → IsLegalSoFar guest past → stopped past ≡ false
    → list_any is_switched past ≡ false
runs_here guest past legal running =
    let Stops : List Event → Type 0 = λ xs. stopped xs ≡ true in
    false_from_ne_true (list_any is_switched past) (λ switched.
    true≢false
    (sym (at_switch guest past Stops legal switched (λ earlier before kept facts. facts.stopped)) ∙ running))

running_few : (s a : Bool) (n rounds : ℕ) → n ≤ rounds + cond (s && a) 1 0 → s ≡ false → n ≤ rounds
running_few true a n rounds h not_so = absurd (true≢false not_so)
running_few false a n rounds h not_so = omega (arith, h)

-- while the guest runs no more rounds are asked than it may have
pub asks_within : (guest : Guest) (past : List Event) → IsLegalSoFar guest past → stopped past ≡ false
    → asks past ≤ guest.settings.rounds
asks_within guest past legal running =
    running_few (stopped past) (list_any is_asked (since is_stopped past)) (asks past) guest.settings.rounds
    (asks_few guest past legal) running

-- after the answer of a round, the round's number and what was asked since are all that was asked
pub asks_after : (guest : Guest) (later : List Event) (r at : ℕ) (pages : List ℕ) (earlier : List Event)
    → IsLegalSoFar guest (later ++ Synced r at pages ∷ earlier)
    → asks (later ++ Synced r at pages ∷ earlier) ≡ count is_asked later + r
asks_after guest later r at pages earlier legal =
    let before = earlier_legal guest later (Synced r at pages ∷ earlier) legal in
    let facts = syncs_facts guest earlier r at pages before.0 in
    let number : r ≡ asks earlier = asked_number guest earlier r before.1 facts.asked in
    let sum = count_both is_asked later (Synced r at pages ∷ earlier) in
    omega (arith, number, sum)

none_pass : (passes : Bool) (n : ℕ) (rest : Bool) → (n ≡ 0 → rest ≡ false) → cond passes (n + 1) n ≡ 0
    → (passes || rest) ≡ false
none_pass true n rest f h = absurd (omega (arith, h))
none_pass false n rest f h = f h

-- where the count of what is asked is 0, nothing is asked
pub none_asked : (xs : List Event) → count is_asked xs ≡ 0 → list_any is_asked xs ≡ false
none_asked [] h = refl
none_asked (e ∷ xs) h =
    none_pass (is_asked e) (count is_asked xs) (list_any is_asked xs) (none_asked xs) h

-- all that was asked is answered, and no answer stands
pub record IsUnasked (past : List Event) : Type 0 where
  pub answered : is_some (unanswered past) ≡ false
  pub last : last_synced past ≡ None

-- where no round is asked, none is answered
pub is_unasked : (guest : Guest) (past : List Event) → IsLegalSoFar guest past → asks past ≡ 0
    → IsUnasked past
is_unasked guest [] legal h = record { answered = refl; last = refl }
is_unasked guest (Asked r ∷ past) legal h = absurd (omega (arith, h))
is_unasked guest (Synced r at pages ∷ past) legal h =
    let asked : is_some (unanswered past) ≡ true =
    number_some r (unanswered past) (syncs_facts guest past r at pages legal.0).asked in
    let none : is_some (unanswered past) ≡ false = (is_unasked guest past legal.1 h).answered in
    cc
is_unasked guest (e ∷ past) legal h =
    let none = is_unasked guest past legal.1 h in
    record { answered = none.answered; last = none.last }
