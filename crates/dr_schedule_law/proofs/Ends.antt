-- A run that has spent its rounds ends by its budget, and whatever follows they stay spent.
use Rattle.std.proofs.Common.{◌≡◌, ℕ, ◌<◌, ◌≤◌, true, false, List, ◌∷◌, ◌++◌, Option, Some, length, refl, sym, ◌∙◌, arith, subst}
use Rattle.std.specs.Prelude.{nat_le}
use Rattle.std.specs.List.{list_all}
use Rattle.std.proofs.lemmas.Bool.{lt-leb, leb-true, lt-ltb}
use Rattle.std.proofs.lemmas.Option.{slice_get_past}
use Rattle.dr_types.specs.declared.guest.Guest.{Guest}
use Rattle.dr_types.specs.Validity.{IsValid}
use Rattle.dr_history.specs.declared.event.Event.{Event}
use Rattle.dr_history.specs.declared.event.Event.TheVariants.{Synced}
use Rattle.dr_history.specs.Kinds.{is_synced}
use Rattle.dr_history.specs.Legality.{IsLegalSoFar}
use Rattle.dr_history.specs.Lookback.{since}
use Rattle.dr_history.specs.Protection.{started}
use Rattle.dr_history.specs.Rounds.{last_synced, copied_in}
use Rattle.dr_history.specs.Vcpus.{stopped}
use Rattle.dr_history_law.specs.Copies.{copies, pages_of}
use Rattle.dr_history_law.proofs.Copies.{all_copied}
use Rattle.dr_turns.specs.declared.answers.RunEnd.TheVariants as end
use Rattle.dr_turns.specs.Due.{run_end}
use Rattle.dr_schedule_law.specs.Spent.{AreSpent, CopiesEach, IsLargeRound}
use Rattle.dr_schedule_law.proofs.Answered.{is_quiet}
use Rattle.dr_schedule_law.proofs.After.{runs_here, asks_within, asks_after, none_asked}
use Rattle.dr_schedule_law.proofs.Copied.{all_are_copied}
use Rattle.dr_schedule_law.proofs.Rounds.{large_on}
use Rattle.dr_schedule_law.proofs.Runs.{spent_begun, spent_runs}
use Rattle.dr_schedule_law.proofs.Tests.{NoneIsLeft, ends_by_budget}

-- where each page of the last answer is copied, there are as many copies as pages
enough : (guest : Guest) (past later : List Event) (r at : ℕ) (pages : List ℕ) (earlier : List Event)
    → IsLegalSoFar guest past → last_synced past ≡ Some (Synced r at pages, earlier)
    → since is_synced past ≡ later → CopiesEach r pages later → length pages ≤ copies past
enough guest past later r at pages earlier legal last since_it each =
    let all : list_all (copied_in (since is_synced past)) pages ≡ nat_le (length pages) (copies past) =
    subst
    (λ (o : Option (Event × List Event)).
    list_all (copied_in (since is_synced past)) (pages_of o) ≡ nat_le (length (pages_of o)) (copies past))
    last (all_copied guest past legal) in
    leb-true (length pages) (copies past)
    (sym all
    ∙ subst (λ (xs : List Event). list_all (copied_in xs) pages ≡ true) (sym since_it)
    (all_are_copied r pages later each))

-- after the answer of the last round, where that was large and is copied, nothing is left
after_last : (guest : Guest) (later : List Event) (r at : ℕ) (pages : List ℕ) (earlier : List Event)
    → IsLegalSoFar guest (later ++ Synced r at pages ∷ earlier)
    → started (later ++ Synced r at pages ∷ earlier) ≡ true
    → stopped (later ++ Synced r at pages ∷ earlier) ≡ false
    → guest.settings.rounds ≡ r → guest.settings.threshold < length pages → CopiesEach r pages later
    → NoneIsLeft guest (later ++ Synced r at pages ∷ earlier)
after_last guest later r at pages earlier legal begun running is large copied =
    let past : List Event = later ++ Synced r at pages ∷ earlier in
    let sum = asks_after guest later r at pages earlier legal in
    let few = asks_within guest past legal running in
    let none = none_asked later (omega (arith, sum, few, is)) in
    let quiet = is_quiet guest later r at pages earlier legal none in
    let le : length pages ≤ copies past =
    enough guest past later r at pages earlier legal quiet.last quiet.since_it copied in
    record {
      begun = begun;
      answered = quiet.answered;
      copied = rw (
        quiet.last,
        lt-ltb guest.settings.threshold (length pages) large,
        slice_get_past pages (copies past) le,
      ) refl;
      here = runs_here guest past legal running;
      running = running;
      large = rw quiet.last (lt-leb (length pages) guest.settings.threshold large);
      asked = omega (arith, sum, is);
    }

-- where the last of the guest's rounds was large and the guest runs, nothing is left
last_leaves_none : (guest : Guest) (past : List Event) (r : ℕ) → IsLegalSoFar guest past
    → started past ≡ true → stopped past ≡ false → guest.settings.rounds ≡ r → IsLargeRound guest past r
    → NoneIsLeft guest past
last_leaves_none guest past r legal begun running is round =
    subst (NoneIsLeft guest) (sym round.answered)
    (after_last guest round.later r round.at round.pages round.earlier
    (subst (IsLegalSoFar guest) round.answered legal)
    (subst (λ (xs : List Event). started xs ≡ true) round.answered begun)
    (subst (λ (xs : List Event). stopped xs ≡ false) round.answered running)
    is round.large round.copied)

-- where the rounds are spent, nothing is asked or left to copy, and no round is left
spent_leaves_none : (guest : Guest) (past : List Event) → IsValid guest → IsLegalSoFar guest past
    → AreSpent guest past → NoneIsLeft guest past
spent_leaves_none guest past valid legal spent =
    let rounds : ℕ = guest.settings.rounds in
    last_leaves_none guest past rounds legal (spent_begun guest past valid legal spent)
    (spent_runs guest past legal spent) refl
    (spent.rounds rounds valid.settings.rounds_some (omega arith))

-- the run of a valid guest that has spent its rounds ends by its budget
pub told_is_spent : (guest : Guest) (past : List Event) → IsValid guest → IsLegalSoFar guest past
    → AreSpent guest past → run_end guest past ≡ end.Budget
told_is_spent guest past valid legal spent =
    ends_by_budget guest past (spent_leaves_none guest past valid legal spent)

-- whatever event follows, spent rounds stay spent
pub spent_stays : (guest : Guest) (past : List Event) (e : Event) → AreSpent guest past
    → AreSpent guest (e ∷ past)
spent_stays guest past e spent = record {
  rounds = λ r one le. large_on guest past r e (spent.rounds r one le);
}
