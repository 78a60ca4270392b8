-- The pages of an open round are copied.
use Rattle.std.proofs.Common.{◌≡◌, ℕ, ◌<◌, ◌≤◌, ◌^◌, Bool, true, false, cond, List, [], ◌∷◌, Option, Some, None, refl, sym, ◌∙◌, arith, slice_get, length}
use Rattle.std.specs.Prelude.{nat_le}
use Rattle.std.specs.List.{list_any, list_all}
use Rattle.std.proofs.lemmas.Bool.{and_parts, eq-eqb, leb-true}
use Rattle.std.proofs.lemmas.Option.{slice_get_past}
use Rattle.dr_types.specs.declared.guest.Guest.{Guest}
use Rattle.dr_types.specs.Pages.{page_count}
use Rattle.dr_types.specs.Validity.{IsValid}
use Rattle.dr_history.specs.declared.event.Event.{Event}
use Rattle.dr_history.specs.declared.event.Event.TheVariants.{Asked, Synced, Copied}
use Rattle.dr_history.specs.Lookback.{since, is_number}
use Rattle.dr_history.specs.Kinds.{is_switched, is_synced}
use Rattle.dr_history.specs.Legality.{IsLegalSoFar}
use Rattle.dr_history.specs.Rounds.{asks, unanswered, last_synced, opens_round, answered_pages, answered_round, is_next_copy, is_least_uncopied, copied_in, round_copied}
use Rattle.dr_history_law.specs.Copies.{copies, pages_of}
use Rattle.dr_history_law.proofs.Answer.{asked_number}
use Rattle.dr_history_law.proofs.Copies.{next_copy, all_copied}
use Rattle.dr_history_law.proofs.Kept.{syncs_facts}
use Rattle.dr_history_law.proofs.Named.{next_within}
use Rattle.dr_event_law.specs.May.{MayFollow}
use Rattle.dr_event_law.proofs.Legally.{copies_legally}
use Rattle.dr_event_law.proofs.Outside.{at_switch}
use Rattle.dr_event_law.proofs.Rest.{settles}
use Rattle.dr_turns.specs.Between.{AtTurnsEnd}
use Rattle.dr_turns.specs.Due.{page_to_copy, page_to_copy_of, round_of}
use Rattle.dr_turns_law.proofs.Going.{asks_fit}

open_place : (opens : Bool) (place : Option ℕ) (page : ℕ) → cond opens place None ≡ Some page → (opens ≡ true) × (place ≡ Some page)
open_place true place page h = (refl, h)
open_place false place page h = cc

-- the page that is left is the one of the last answer that has the number of those copied
pub left_place : (guest : Guest) (past : List Event) (o : Option (Event × List Event)) (page : ℕ) → page_to_copy_of guest past o ≡ Some page → slice_get (pages_of o) (copies past) ≡ Some page
left_place guest past None page page_to_copy = cc
left_place guest past (Some s) page page_to_copy = (open_place (opens_round guest s.0 s.1) (slice_get (answered_pages s.0) (copies past)) page page_to_copy).1

-- the page that is left is one of the guest
pub left_within : (guest : Guest) (past : List Event) (page : ℕ) → IsLegalSoFar guest past → page_to_copy guest past ≡ Some page → page < page_count guest
left_within guest past page legal page_to_copy = next_within guest past (copies past) page legal (left_place guest past (last_synced past) page page_to_copy)

next_to_copy : (guest : Guest) (past : List Event) (o : Option (Event × List Event)) (page : ℕ) → is_least_uncopied page (pages_of o) (since is_synced past) ≡ is_number page (slice_get (pages_of o) (copies past)) → page_to_copy_of guest past o ≡ Some page → is_next_copy guest (round_of o) page o (since is_synced past) ≡ true
next_to_copy guest past None page law page_to_copy = cc
next_to_copy guest past (Some s) page law page_to_copy =
    let parts = open_place (opens_round guest s.0 s.1) (slice_get (answered_pages s.0) (copies past)) page page_to_copy in
    rw (eq-eqb (answered_round s.0) (answered_round s.0) refl, parts.0, law, parts.1) (eq-eqb page page refl)

all_left : (guest : Guest) (past : List Event) (o : Option (Event × List Event)) → list_all (copied_in (since is_synced past)) (pages_of o) ≡ nat_le (length (pages_of o)) (copies past) → round_copied guest o (since is_synced past) ≡ true → page_to_copy_of guest past o ≡ None
all_left guest past None all h = refl
all_left guest past (Some s) all h =
    let parts = and_parts (opens_round guest s.0 s.1) (list_all (copied_in (since is_synced past)) (answered_pages s.0)) h in
    rw (parts.0, slice_get_past (answered_pages s.0) (copies past) (leb-true (length (answered_pages s.0)) (copies past) (sym all ∙ parts.1))) refl

some_none : (o : Option ℕ) (page : ℕ) → o ≡ Some page → o ≡ None → ⊥
some_none None page h k = cc
some_none (Some q) page h k = cc

not_true : (b : Bool) → (b ≡ true → ⊥) → b ≡ false
not_true true f = absurd (f refl)
not_true false f = refl

-- while a page is left the guest has not switched over
pub left_here : (guest : Guest) (past : List Event) (page : ℕ) → IsLegalSoFar guest past → page_to_copy guest past ≡ Some page → list_any is_switched past ≡ false
left_here guest past page legal h =
    not_true (list_any is_switched past) (λ s.
    some_none (page_to_copy guest past) page h
    (at_switch guest past (λ (xs : List Event). page_to_copy guest xs ≡ None) legal s
    (λ earlier before kept facts. all_left guest earlier (last_synced earlier) (all_copied guest earlier before) facts.copied)))

-- the page that is left is copied by the rules
pub copy_follows : (guest : Guest) (past : List Event) (page : ℕ) → IsLegalSoFar guest past → AtTurnsEnd guest past → unanswered past ≡ None → page_to_copy guest past ≡ Some page → MayFollow guest past (Copied (round_of (last_synced past)) page)
copy_follows guest past page legal end answered page_to_copy =
    copies_legally guest past (round_of (last_synced past)) page
    (record { rests = end.rests; here = left_here guest past page legal page_to_copy })
    (record {
      within = left_within guest past page legal page_to_copy;
      answered = answered;
      next = next_to_copy guest past (last_synced past) page (next_copy guest past page legal) page_to_copy;
    })

-- after its copy nothing is owed, and no buffer is full
pub copy_ends : (guest : Guest) (past : List Event) (page : ℕ) → IsLegalSoFar guest past → AtTurnsEnd guest past → unanswered past ≡ None → page_to_copy guest past ≡ Some page → AtTurnsEnd guest (Copied (round_of (last_synced past)) page ∷ past)
copy_ends guest past page legal end answered page_to_copy = record {
  rests = (settles guest past (Copied (round_of (last_synced past)) page) tt (left_here guest past page legal page_to_copy)).rests;
  buffers = end.buffers;
}

-- the round of the last answer was asked
pub round_asked : (guest : Guest) (past : List Event) → IsLegalSoFar guest past → round_of (last_synced past) ≤ asks past
round_asked guest [] legal = omega arith
round_asked guest (Asked r ∷ past) legal = let le : round_of (last_synced past) ≤ asks past = round_asked guest past legal.1 in omega arith
round_asked guest (Synced r at pages ∷ past) legal = let is : r ≡ asks past = asked_number guest past r legal.1 (syncs_facts guest past r at pages legal.0).asked in omega arith
round_asked guest (e ∷ past) legal = round_asked guest past legal.1

-- its number fits
pub round_fits : (guest : Guest) (past : List Event) → IsValid guest → IsLegalSoFar guest past → round_of (last_synced past) < 2 ^ 32
round_fits guest past valid legal =
    let few : asks past ≤ 65 = asks_fit guest past valid legal in
    let le : round_of (last_synced past) ≤ asks past = round_asked guest past legal in
    omega arith
