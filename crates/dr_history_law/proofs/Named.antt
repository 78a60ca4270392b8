-- The pages of an answer are pages of the guest.
use Rattle.std.proofs.Common.{◌≡◌, ℕ, zero, suc, ◌<◌, Bool, true, List, [], ◌∷◌, Option, Some, None, refl, ap, sym, ◌∙◌}
use Rattle.std.specs.Prelude.{slice_get, IfSome}
use Rattle.std.specs.List.{list_all}
use Rattle.std.proofs.lemmas.Bool.{and_parts, ltb-true}
use Rattle.dr_types.specs.declared.guest.Guest.{Guest}
use Rattle.dr_types.specs.Pages.{page_count}
use Rattle.dr_history.specs.declared.event.Event.{Event}
use Rattle.dr_history.specs.declared.event.Event.TheVariants.{Synced}
use Rattle.dr_history.specs.Legality.{IsLegalSoFar}
use Rattle.dr_history.specs.Rounds.{last_synced}
use Rattle.dr_history.specs.Rules.{names_exist, is_page}
use Rattle.dr_history_law.specs.Copies.{pages_of}
use Rattle.dr_history_law.proofs.Kept.{keeps}

-- the pages of an answer are the guest's
named_pages : (guest : Guest) (past : List Event) (r at : ℕ) (pages : List ℕ) → names_exist guest past (Synced r at pages) ≡ true → list_all (is_page guest) pages ≡ true
unfolding names_exist
named_pages guest past r at pages h = h

answer_named : (guest : Guest) (past : List Event) → IsLegalSoFar guest past → list_all (is_page guest) (pages_of (last_synced past)) ≡ true
answer_named guest [] legal = refl
answer_named guest (Synced r at pages ∷ past) legal = named_pages guest past r at pages (keeps guest past (Synced r at pages) legal.0).names_exist_holds
answer_named guest (e ∷ past) legal = answer_named guest past legal.1

at_place : (f : ℕ → Bool) (xs : List ℕ) (n x : ℕ) → list_all f xs ≡ true → slice_get xs n ≡ Some x → f x ≡ true
at_place f [] n x h s = cc
at_place f (y ∷ ys) zero x h s = let e : y ≡ x = cc in ap f (sym e) ∙ (and_parts (f y) (list_all f ys) h).0
at_place f (y ∷ ys) (suc n) x h s = at_place f ys n x (and_parts (f y) (list_all f ys) h).1 s

-- the page that is copied next is one of the guest
pub next_within : (guest : Guest) (past : List Event) (n page : ℕ) → IsLegalSoFar guest past
    → slice_get (pages_of (last_synced past)) n ≡ Some page → page < page_count guest
next_within guest past n page legal at =
    ltb-true page (page_count guest) (at_place (is_page guest) (pages_of (last_synced past)) n page (answer_named guest past legal) at)

within_case : (n : ℕ) (o : Option ℕ) → ((page : ℕ) → o ≡ Some page → page < n) → IfSome o (λ page. page < n)
within_case n None h = tt
within_case n (Some page) h = h page refl

pub next_is_within : (guest : Guest) (past : List Event) (n : ℕ) → IsLegalSoFar guest past
    → IfSome (slice_get (pages_of (last_synced past)) n) (λ page. page < page_count guest)
next_is_within guest past n legal =
    within_case (page_count guest) (slice_get (pages_of (last_synced past)) n) (λ page at. next_within guest past n page legal at)
