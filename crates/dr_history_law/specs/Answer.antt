-- Each answer has exactly the dirty pages, and with them all that was written before it was asked.
use Rattle.std.specs.Prelude.{◌≡◌, ℕ, Bool, true, false, ◌==◌, ◌||◌, List, ◌∷◌, ◌++◌, is_some}
use Rattle.std.specs.List.{list_any}
use Rattle.dr_types.specs.declared.guest.Guest.{Guest}
use Rattle.dr_history.specs.declared.event.Event.{Event}
use Rattle.dr_history.specs.declared.event.Event.TheVariants.{Asked, Synced}
use Rattle.dr_history.specs.Lookback.{before}
use Rattle.dr_history.specs.Kinds.{is_asked, copies_page}
use Rattle.dr_history.specs.Protection.{closing}
use Rattle.dr_history.specs.Dirty.{dirty, dirty_pages}
use Rattle.dr_history.specs.Rounds.{unanswered}
use Rattle.dr_history.specs.Unsent.{writes_to, is_unsent}
use Rattle.dr_history.specs.Legality.{IsLegalSoFar}
use Rattle.dr_history_law.specs.Outstanding.{is_outstanding}

-- an answer has exactly the dirty pages, rising
abbrev pub AnswersExactly : Guest → List Event → List ℕ → Type 0
AnswersExactly guest earlier pages = pages ≡ dirty_pages guest earlier

-- the answer has the page
abbrev pub has_page : List ℕ → ℕ → Bool
has_page pages page = list_any (λ q. q == page) pages

-- an entry of the page that was opened before the last Asked is outstanding
abbrev pub outstanding_since_asked : ℕ → List Event → Bool
outstanding_since_asked page past = list_any (is_outstanding page past) (before is_asked past)

-- while an Asked has no answer, an unsent page is dirty, closing or has an entry outstanding that
-- was opened before that Asked
abbrev pub UnsentIsOwed : Guest → List Event → Type 0
UnsentIsOwed guest past =
    (page : ℕ) → is_some (unanswered past) ≡ true → is_unsent guest page past ≡ true
    → (dirty page past || closing page past || outstanding_since_asked page past) ≡ true

-- an answer has each page that is unsent up to its Asked
abbrev pub AnswersUnsent : Guest → List Event → List ℕ → Type 0
AnswersUnsent guest past pages =
    (page : ℕ) → is_unsent guest page past ≡ true → has_page pages page ≡ true

-- a page that was written before the Asked of an answer, and not copied between the write and the
-- answer, is in the answer
abbrev pub AnswersWritten : Guest → List Event → ℕ → ℕ → List ℕ → List Event → List Event
    → Event → List Event → Type 0
AnswersWritten guest after r at pages later between write earlier =
    (page : ℕ)
    → IsLegalSoFar guest (after ++ Synced r at pages
    ∷ (later ++ Asked r ∷ (between ++ write ∷ earlier)))
    → writes_to guest page write ≡ true
    → list_any (copies_page page) between ≡ false
    → list_any (copies_page page) later ≡ false
    → has_page pages page ≡ true
