-- The last answer of a history, and what came since.
use Rattle.std.proofs.Common.{◌≡◌, ℕ, true, false, List, [], ◌∷◌, ◌++◌, Some, is_some, refl, ap}
use Rattle.std.specs.List.{list_any}
use Rattle.std.proofs.lemmas.Bool.{true≢false, false≢true}
use Rattle.dr_types.specs.declared.guest.Guest.{Guest}
use Rattle.dr_history.specs.declared.event.Event.{Event}
use Rattle.dr_history.specs.declared.event.Event.TheVariants.{Asked, Synced, Stopped}
use Rattle.dr_history.specs.Kinds.{is_asked, is_synced}
use Rattle.dr_history.specs.Legality.{IsLegalSoFar}
use Rattle.dr_history.specs.Lookback.{since}
use Rattle.dr_history.specs.Rounds.{asks, unanswered, last_synced}
use Rattle.dr_history.specs.Vcpus.{stopped}
use Rattle.dr_history_law.proofs.Answer.{asked_number}
use Rattle.dr_history_law.proofs.Kept.{syncs_facts}
use Rattle.dr_history_law.proofs.Switch.{number_some}
use Rattle.dr_turns.specs.Due.{round_of}

-- the last answer, with the events before it and since
pub record LastAnswer (past : List Event) : Type 0 where
  pub r : ℕ
  pub at : ℕ
  pub pages : List ℕ
  pub earlier : List Event
  pub last : last_synced past ≡ Some (Synced r at pages, earlier)
  pub parts : past ≡ since is_synced past ++ Synced r at pages ∷ earlier

-- where an answer stands, one is the last
pub last_answer : (past : List Event) → is_some (last_synced past) ≡ true → LastAnswer past
last_answer [] h = absurd (false≢true h)
last_answer (Synced r at pages ∷ past) h =
    record { r = r; at = at; pages = pages; earlier = past; last = refl; parts = refl }
last_answer (e ∷ past) h =
    let answer = last_answer past h in
    record {
      r = answer.r;
      at = answer.at;
      pages = answer.pages;
      earlier = answer.earlier;
      last = answer.last;
      parts = ap (λ (xs : List Event). e ∷ xs) answer.parts;
    }

-- where all that was asked is answered, the last answer is of the round that was asked last
pub answers_last : (guest : Guest) (past : List Event) → IsLegalSoFar guest past
    → is_some (unanswered past) ≡ false → is_some (last_synced past) ≡ true
    → round_of (last_synced past) ≡ asks past
answers_last guest [] legal u h = absurd (false≢true h)
answers_last guest (Asked r ∷ past) legal u h = absurd (true≢false u)
answers_last guest (Synced r at pages ∷ past) legal u h =
    asked_number guest past r legal.1 (syncs_facts guest past r at pages legal.0).asked
answers_last guest (e ∷ past) legal u h = answers_last guest past legal.1 u h

-- a guest that runs was running before
pub ran_before : (later earlier : List Event) → stopped (later ++ earlier) ≡ false → stopped earlier ≡ false
ran_before [] earlier h = h
ran_before (Stopped ∷ later) earlier h = absurd (true≢false h)
ran_before (e ∷ later) earlier h = ran_before later earlier h

-- this answer is the last, and all that was asked is answered
pub record IsQuiet (later : List Event) (r at : ℕ) (pages : List ℕ) (earlier : List Event) : Type 0 where
  pub answered : is_some (unanswered (later ++ Synced r at pages ∷ earlier)) ≡ false
  pub last : last_synced (later ++ Synced r at pages ∷ earlier) ≡ Some (Synced r at pages, earlier)
  pub since_it : since is_synced (later ++ Synced r at pages ∷ earlier) ≡ later

-- where nothing is asked since an answer, it is the last one
pub is_quiet : (guest : Guest) (later : List Event) (r at : ℕ) (pages : List ℕ) (earlier : List Event)
    → IsLegalSoFar guest (later ++ Synced r at pages ∷ earlier) → list_any is_asked later ≡ false
    → IsQuiet later r at pages earlier
is_quiet guest [] r at pages earlier legal h = record { answered = refl; last = refl; since_it = refl }
is_quiet guest (Asked n ∷ later) r at pages earlier legal h = absurd (true≢false h)
is_quiet guest (Synced n t others ∷ later) r at pages earlier legal h =
    let past : List Event = later ++ Synced r at pages ∷ earlier in
    let quiet = is_quiet guest later r at pages earlier legal.1 h in
    let asked : is_some (unanswered past) ≡ true =
    number_some n (unanswered past) (syncs_facts guest past n t others legal.0).asked in
    let none : is_some (unanswered past) ≡ false = quiet.answered in
    cc
is_quiet guest (e ∷ later) r at pages earlier legal h =
    let quiet = is_quiet guest later r at pages earlier legal.1 h in
    record {
      answered = quiet.answered;
      last = quiet.last;
      since_it = ap (λ (xs : List Event). e ∷ xs) quiet.since_it;
    }
