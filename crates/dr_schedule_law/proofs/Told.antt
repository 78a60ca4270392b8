-- A run that ends by its budget has spent its rounds.
use Rattle.std.proofs.Common.{◌≡◌, ℕ, zero, suc, ◌<◌, ◌≤◌, true, false, List, [], ◌∷◌, Option, Some, None, is_some, length, arith, inl, inr, subst}
use Rattle.std.specs.Prelude.{nat_le, nat_lt, slice_get}
use Rattle.std.specs.List.{list_all}
use Rattle.std.proofs.lemmas.Bool.{le-leb, lt-ltb, leb-false, cases_lt, false≢true, true≢false}
use Rattle.dr_types.specs.declared.guest.Guest.{Guest}
use Rattle.dr_history.specs.declared.event.Event.{Event}
use Rattle.dr_history.specs.Kinds.{is_synced}
use Rattle.dr_history.specs.Legality.{IsLegalSoFar}
use Rattle.dr_history.specs.Lookback.{since}
use Rattle.dr_history.specs.Rounds.{asks, last_synced, round_copied, few_answered, answered_pages, copied_in}
use Rattle.dr_history_law.specs.Copies.{copies, pages_of}
use Rattle.dr_history_law.proofs.Copies.{all_copied}
use Rattle.dr_event_law.proofs.Rounds.{asked_synced}
use Rattle.dr_turns.specs.declared.answers.RunEnd.TheVariants as end
use Rattle.dr_turns.specs.Due.{page_to_copy_of, run_end}
use Rattle.dr_schedule_law.specs.Spent.{AreSpent, IsLargeRound}
use Rattle.dr_schedule_law.proofs.Rounds.{copied_is_large, large_before}
use Rattle.dr_schedule_law.proofs.Tests.{NoneIsLeft, none_left}

past_end : (xs : List ℕ) (n : ℕ) → is_some (slice_get xs n) ≡ false → length xs ≤ n
past_end [] n h = omega arith
past_end (x ∷ xs) zero h = absurd (true≢false h)
past_end (x ∷ xs) (suc n) h = let le : length xs ≤ n = past_end xs n h in omega arith

-- where no page is left of an answer with too many pages, all of it is copied
none_left_copied : (guest : Guest) (past : List Event) (o : Option (Event × List Event)) → is_some o ≡ true
    → few_answered guest o ≡ false
    → list_all (copied_in (since is_synced past)) (pages_of o) ≡ nat_le (length (pages_of o)) (copies past)
    → is_some (page_to_copy_of guest past o) ≡ false → round_copied guest o (since is_synced past) ≡ true
none_left_copied guest past None some many all none = absurd (false≢true some)
none_left_copied guest past (Some synced) some many all none =
    let pages : List ℕ = answered_pages synced.0 in
    let large : nat_lt guest.settings.threshold (length pages) ≡ true =
    lt-ltb guest.settings.threshold (length pages)
    (leb-false (length pages) guest.settings.threshold many) in
    let le : length pages ≤ copies past = past_end pages (copies past) (rw large at none) in
    rw (large, all) (le-leb (length pages) (copies past) le)

-- the round that was asked last was large too
last_is_large : (guest : Guest) (past : List Event) → IsLegalSoFar guest past → NoneIsLeft guest past
    → 0 < asks past → IsLargeRound guest past (asks past)
last_is_large guest past legal tests some =
    copied_is_large guest past legal tests.running tests.answered
    (none_left_copied guest past (last_synced past) (asked_synced past some tests.answered) tests.large
    (all_copied guest past legal) tests.copied)

-- a run that ends by its budget has spent its rounds
pub spent_is_told : (guest : Guest) (past : List Event) → IsLegalSoFar guest past
    → run_end guest past ≡ end.Budget → AreSpent guest past
spent_is_told guest past legal h =
    let tests = none_left guest past h in
    record {
      rounds = λ r one le.
          elim (cases_lt r (asks past)) [
            | inl less ↦ large_before guest past r legal tests.running one less
            | inr more ↦
                let asked : guest.settings.rounds ≤ asks past = tests.asked in
                let is : asks past ≡ r = omega (arith, asked, le, more) in
                subst (IsLargeRound guest past) is
                (last_is_large guest past legal tests (omega (arith, is, one)))
          ];
    }
