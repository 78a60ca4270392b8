-- Each round before the last that was asked was large, and was copied.
use Rattle.std.proofs.Common.{◌≡◌, ℕ, ◌+◌, ◌<◌, ◌≤◌, Bool, true, false, cond, List, [], ◌∷◌, Option, Some, None, is_some, length, refl, ap, arith, inl, inr, subst}
use Rattle.std.specs.Prelude.{◌&&◌, ◌||◌, nat_lt}
use Rattle.std.proofs.lemmas.Bool.{and_parts, ltb-true, le-ltb, cases_lt, true≢false, false≢true}
use Rattle.dr_types.specs.declared.guest.Guest.{Guest}
use Rattle.dr_history.specs.declared.event.Event.{Event}
use Rattle.dr_history.specs.declared.event.Event.TheVariants.{Asked, Synced, Copied, Stopped}
use Rattle.dr_history.specs.Kinds.{is_asked, is_synced}
use Rattle.dr_history.specs.Legality.{IsLegalSoFar, broken}
use Rattle.dr_history.specs.Lookback.{since}
use Rattle.dr_history.specs.Rounds.{asks, unanswered, last_synced, round_copied}
use Rattle.dr_history.specs.Rules.{asks_in_turn, may_ask}
use Rattle.dr_history.specs.Vcpus.{stopped, all_paced}
use Rattle.dr_history_law.proofs.Kept.{keeps, asks_facts}
use Rattle.dr_turns.specs.Due.{round_of}
use Rattle.dr_schedule_law.specs.Spent.{CopiesEach, IsLargeRound}
use Rattle.dr_schedule_law.proofs.Answered.{LastAnswer, last_answer, answers_last, ran_before}
use Rattle.dr_schedule_law.proofs.Copied.{copies_each, one_more}

-- a large round stays one after a further event
pub large_on : (guest : Guest) (past : List Event) (r : ℕ) (e : Event) → IsLargeRound guest past r
    → IsLargeRound guest (e ∷ past) r
large_on guest past r e round = record {
  later = e ∷ round.later;
  at = round.at;
  pages = round.pages;
  earlier = round.earlier;
  answered = ap (λ (xs : List Event). e ∷ xs) round.answered;
  large = round.large;
  copied = λ page inside. one_more e (Copied r page) round.later (round.copied page inside);
}

some_copied : (guest : Guest) (o : Option (Event × List Event)) (later : List Event)
    → round_copied guest o later ≡ true → is_some o ≡ true
some_copied guest None later h = absurd (false≢true h)
some_copied guest (Some synced) later h = refl

first_true : (a b : Bool) → (a || b) ≡ true → b ≡ false → a ≡ true
first_true true b h not_so = refl
first_true false b h not_so = cc

-- where the last answer opened a round, and all of it is copied, that round is large
pub copied_is_large : (guest : Guest) (past : List Event) → IsLegalSoFar guest past → stopped past ≡ false
    → is_some (unanswered past) ≡ false → round_copied guest (last_synced past) (since is_synced past) ≡ true
    → IsLargeRound guest past (asks past)
copied_is_large guest past legal running u h =
    let some = some_copied guest (last_synced past) (since is_synced past) h in
    let answer : LastAnswer past = last_answer past some in
    let tests =
    and_parts _ _
    (subst (λ (o : Option (Event × List Event)). round_copied guest o (since is_synced past) ≡ true)
    answer.last h) in
    let ran : stopped answer.earlier ≡ false =
    ran_before (since is_synced past) (Synced answer.r answer.at answer.pages ∷ answer.earlier)
    (subst (λ (xs : List Event). stopped xs ≡ false) answer.parts running) in
    let number : answer.r ≡ asks past =
    subst (λ (o : Option (Event × List Event)). round_of o ≡ asks past) answer.last
    (answers_last guest past legal u some) in
    let round : IsLargeRound guest past answer.r = record {
      later = since is_synced past;
      at = answer.at;
      pages = answer.pages;
      earlier = answer.earlier;
      answered = answer.parts;
      large = ltb-true guest.settings.threshold (length answer.pages)
          (first_true (nat_lt guest.settings.threshold (length answer.pages)) (stopped answer.earlier)
          tests.0 ran);
      copied = subst
          (λ (o : Option (Event × List Event)). CopiesEach (round_of o) answer.pages (since is_synced past))
          answer.last (copies_each guest past answer.pages legal tests.1);
    } in
    subst (IsLargeRound guest past) number round

turn_case : (s a m : Bool) → cond s a m ≡ true → s ≡ false → m ≡ true
turn_case true a m h not_so = absurd (true≢false not_so)
turn_case false a m h not_so = h

later_case : (first copied paced : Bool) → (first || (copied && paced)) ≡ true → first ≡ false
    → copied ≡ true
later_case true copied paced h not_so = absurd (true≢false not_so)
later_case false copied paced h not_so = (and_parts _ _ h).0

-- while the guest runs, a round after the first is asked only where the one before is copied
asked_copied : (guest : Guest) (past : List Event) (r : ℕ) → broken guest past (Asked r) ≡ None
    → stopped past ≡ false → 2 ≤ r → round_copied guest (last_synced past) (since is_synced past) ≡ true
unfolding asks_in_turn
asked_copied guest past r h running two =
    let turn : may_ask guest r past ≡ true =
    turn_case (stopped past) _ (may_ask guest r past)
    (and_parts _ _ (keeps guest past (Asked r) h).asks_in_turn_holds).1 running in
    later_case (nat_lt r 2) (round_copied guest (last_synced past) (since is_synced past))
    (all_paced guest (since is_asked past) past) (and_parts _ _ turn).1 (le-ltb r 2 two)

-- while the guest runs, each round before the one that was asked last was large, and was copied
pub large_before : (guest : Guest) (past : List Event) (r : ℕ) → IsLegalSoFar guest past
    → stopped past ≡ false → 1 ≤ r → r < asks past → IsLargeRound guest past r
large_before guest [] r legal running one lt = absurd (omega arith)
large_before guest (Asked n ∷ past) r legal running one lt =
    elim (cases_lt r (asks past)) [
      | inl less ↦ large_on guest past r (Asked n) (large_before guest past r legal.1 running one less)
      | inr le ↦
          let facts = asks_facts guest past n legal.0 in
          let number : n ≡ asks past + 1 = facts.number in
          let is : asks past ≡ r = omega arith in
          let round : IsLargeRound guest past (asks past) =
          copied_is_large guest past legal.1 running facts.answered
          (asked_copied guest past n legal.0 running (omega (arith, number, is, one))) in
          large_on guest past r (Asked n) (subst (IsLargeRound guest past) is round)
    ]
large_before guest (Stopped ∷ past) r legal running one lt = absurd (true≢false running)
large_before guest (e ∷ past) r legal running one lt =
    large_on guest past r e (large_before guest past r legal.1 running one lt)
