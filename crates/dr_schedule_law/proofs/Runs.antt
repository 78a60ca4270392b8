-- Where the rounds are spent logging began, and the guest runs on.
use Rattle.std.proofs.Common.{◌≡◌, ℕ, ◌+◌, ◌≤◌, true, false, List, [], ◌∷◌, ◌++◌, Option, None, length, refl, ap, sym, ◌∙◌, arith, inl, inr, subst}
use Rattle.std.proofs.lemmas.Bool.{and_parts, leb-true, cases_lt, false_from_ne_true, or_right, false≢true}
use Rattle.std.proofs.lemmas.List.Folds.{list_any-append}
use Rattle.dr_types.specs.declared.guest.Guest.{Guest}
use Rattle.dr_types.specs.Validity.{IsValid}
use Rattle.dr_history.specs.declared.event.Event.{Event}
use Rattle.dr_history.specs.declared.event.Event.TheVariants.{Synced, Stopped}
use Rattle.dr_history.specs.Kinds.{is_start, is_synced}
use Rattle.dr_history.specs.Legality.{IsLegalSoFar, broken}
use Rattle.dr_history.specs.Lookback.{since}
use Rattle.dr_history.specs.Protection.{started}
use Rattle.dr_history.specs.Rounds.{asks, last_synced, few_answered}
use Rattle.dr_history.specs.Rules.{stops_when_few}
use Rattle.dr_history.specs.Vcpus.{stopped}
use Rattle.dr_history_law.proofs.Earlier.{earlier_legal}
use Rattle.dr_history_law.proofs.Kept.{keeps, stops_facts}
use Rattle.dr_event_law.proofs.Rounds.{asks_few, asked_synced, synced_started}
use Rattle.dr_turns.specs.Due.{round_of}
use Rattle.dr_schedule_law.specs.Spent.{AreSpent, IsLargeRound}
use Rattle.dr_schedule_law.proofs.Answered.{LastAnswer, answers_last, last_answer}
use Rattle.dr_schedule_law.proofs.After.{is_unasked}
use Rattle.dr_schedule_law.proofs.Once.{same_answer}

-- where the rules let the guest be stopped, the last answer has at most `threshold` pages
stop_few : (guest : Guest) (past : List Event) → broken guest past Stopped ≡ None
    → few_answered guest (last_synced past) ≡ true
unfolding stops_when_few
stop_few guest past h = (and_parts _ _ (keeps guest past Stopped h).stops_when_few_holds).1

-- where the last answer has at most `threshold` pages, a round was asked
some_asked : (guest : Guest) (past : List Event) → IsLegalSoFar guest past
    → few_answered guest (last_synced past) ≡ true → 1 ≤ asks past
some_asked guest past legal few =
    elim (cases_lt 0 (asks past)) [
      | inl some ↦ omega (arith, some)
      | inr le ↦
          let none = is_unasked guest past legal (omega (arith, le)) in
          absurd
          (false≢true
          (subst (λ (o : Option (Event × List Event)). few_answered guest o ≡ true) none.last few))
    ]

-- one of the rounds that the guest may have was answered with at most `threshold` pages
record HasFewRound (guest : Guest) (past : List Event) : Type 0 where
  r : ℕ
  one : 1 ≤ r
  within : r ≤ guest.settings.rounds
  later : List Event
  at : ℕ
  pages : List ℕ
  earlier : List Event
  answered : past ≡ later ++ Synced r at pages ∷ earlier
  few : length pages ≤ guest.settings.threshold

-- where the last answer has at most `threshold` pages, and is of the round that was asked last, that is one
few_last : (guest : Guest) (past : List Event) (answer : LastAnswer past) → answer.r ≡ asks past
    → 1 ≤ asks past → asks past ≤ guest.settings.rounds → few_answered guest (last_synced past) ≡ true
    → HasFewRound guest past
few_last guest past answer number one within few = record {
  r = answer.r;
  one = omega (arith, number, one);
  within = omega (arith, number, within);
  later = since is_synced past;
  at = answer.at;
  pages = answer.pages;
  earlier = answer.earlier;
  answered = answer.parts;
  few = leb-true (length answer.pages) guest.settings.threshold
      (subst (λ (o : Option (Event × List Event)). few_answered guest o ≡ true) answer.last few);
}

-- where the rules let the guest be stopped, it has such a round
few_at_stop : (guest : Guest) (past : List Event) → IsLegalSoFar guest (Stopped ∷ past)
    → HasFewRound guest past
few_at_stop guest past legal =
    let few = stop_few guest past legal.0 in
    let one = some_asked guest past legal.1 few in
    let quiet = stops_facts guest past legal.0 in
    let within : asks past ≤ guest.settings.rounds + 0 = asks_few guest (Stopped ∷ past) legal in
    let some = asked_synced past (omega (arith, one)) quiet in
    let answer = last_answer past some in
    let number : answer.r ≡ asks past =
    subst (λ (o : Option (Event × List Event)). round_of o ≡ asks past) answer.last
    (answers_last guest past legal.1 quiet some) in
    few_last guest past answer number one (omega (arith, within)) few

-- a history that has such a round has it after a further event too
few_on : (guest : Guest) (past : List Event) (e : Event) → HasFewRound guest past
    → HasFewRound guest (e ∷ past)
few_on guest past e round = record {
  r = round.r;
  one = round.one;
  within = round.within;
  later = e ∷ round.later;
  at = round.at;
  pages = round.pages;
  earlier = round.earlier;
  answered = ap (λ (xs : List Event). e ∷ xs) round.answered;
  few = round.few;
}

-- where the guest is stopped, one of its rounds was answered with at most `threshold` pages
stopped_few : (guest : Guest) (past : List Event) → IsLegalSoFar guest past → stopped past ≡ true
    → HasFewRound guest past
stopped_few guest [] legal h = absurd (false≢true h)
stopped_few guest (Stopped ∷ past) legal h = few_on guest past Stopped (few_at_stop guest past legal)
stopped_few guest (e ∷ past) legal h = few_on guest past e (stopped_few guest past legal.1 h)

-- no round is answered both with at most `threshold` pages and with more
few_or_large : (guest : Guest) (past : List Event) → IsLegalSoFar guest past → (few : HasFewRound guest past)
    → IsLargeRound guest past few.r → ⊥
few_or_large guest past legal few large =
    let same : few.pages ≡ large.pages =
    same_answer guest few.later large.later few.r few.at large.at few.pages large.pages few.earlier
    large.earlier
    (subst (IsLegalSoFar guest) few.answered legal)
    (sym few.answered ∙ large.answered) in
    let most : length large.pages ≤ guest.settings.threshold =
    subst (λ (pages : List ℕ). length pages ≤ guest.settings.threshold) same few.few in
    absurd (omega (arith, most, large.large))

-- where the rounds are spent the guest isn't stopped: each of them was answered with too many pages
pub spent_runs : (guest : Guest) (past : List Event) → IsLegalSoFar guest past → AreSpent guest past
    → stopped past ≡ false
spent_runs guest past legal spent =
    false_from_ne_true (stopped past) (λ stop.
    let few = stopped_few guest past legal stop in
    few_or_large guest past legal few (spent.rounds few.r few.one few.within))

-- what began before some events has begun after them
still_started : (later earlier : List Event) → started earlier ≡ true → started (later ++ earlier) ≡ true
still_started later earlier h =
    list_any-append is_start later earlier ∙ or_right (started later) (started earlier) h

-- where a round was answered logging began
large_started : (guest : Guest) (past : List Event) (r : ℕ) → IsLegalSoFar guest past
    → IsLargeRound guest past r → started past ≡ true
large_started guest past r legal round =
    let answer : List Event = Synced r round.at round.pages ∷ round.earlier in
    let before = earlier_legal guest round.later answer (subst (IsLegalSoFar guest) round.answered legal) in
    subst (λ (xs : List Event). started xs ≡ true) (sym round.answered)
    (still_started round.later answer (synced_started guest answer before refl))

-- where the rounds of a valid guest are spent logging began
pub spent_begun : (guest : Guest) (past : List Event) → IsValid guest → IsLegalSoFar guest past
    → AreSpent guest past → started past ≡ true
spent_begun guest past valid legal spent =
    large_started guest past 1 legal (spent.rounds 1 (omega arith) valid.settings.rounds_some)
