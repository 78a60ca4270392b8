-- An answer has exactly the dirty pages, and those are copied in their order.
use Rattle.std.proofs.Common.{◌≡◌, ℕ, zero, suc, ◌+◌, ◌<◌, Bool, true, false, List, [], ◌∷◌, ◌++◌, length, take, refl, ap, sym, ◌∙◌, arith, inl, inr, subst, add-one}
use Rattle.std.specs.Prelude.{◌==◌, ◌||◌, ◌&&◌, not, nat_le, Option, Some, None}
use Rattle.std.specs.List.{list_all, slice_get}
use Rattle.std.proofs.lemmas.Bool.{and_parts, eqb-true, eq-eqb, ne_eqb, le-leb, lt-leb, cases_lt}
use Rattle.std.proofs.lemmas.List.Folds.{list_any-append}
use Rattle.dr_types.specs.declared.guest.Guest.{Guest}
use Rattle.dr_types.specs.Pages.{page_count}
use Rattle.dr_history.specs.declared.event.Event.{Event}
use Rattle.dr_history.specs.declared.event.Event.TheVariants.{Synced, Copied}
use Rattle.dr_history.specs.Lookback.{since, is_number}
use Rattle.dr_history.specs.Kinds.{is_synced}
use Rattle.dr_history.specs.Dirty.{dirty, dirty_pages}
use Rattle.dr_history.specs.Rounds.{last_synced, copied_in, is_next_copy, is_least_uncopied}
use Rattle.dr_history.specs.Legality.{IsLegalSoFar, broken}
use Rattle.dr_history.specs.Rules.{answers_dirty, copies_next}
use Rattle.dr_history_law.specs.Answer.{AnswersExactly}
use Rattle.dr_history_law.specs.Copies.{copies, pages_of, IsRising, AllAbove}
use Rattle.dr_history_law.proofs.Listing.{same_list}
use Rattle.dr_history_law.proofs.Kept.{keeps}
use Rattle.dr_history_law.proofs.Earlier.{earlier_legal}
use Rattle.dr_history_law.proofs.Rising.{among, least_after, rising_filter}

answer_facts : (guest : Guest) (past : List Event) (r at : ℕ) (pages : List ℕ) → broken guest past (Synced r at pages) ≡ None → pages ≡ dirty_pages guest past
unfolding answers_dirty
answer_facts guest past r at pages h = same_list pages (dirty_pages guest past) (keeps guest past (Synced r at pages) h).answers_dirty_holds

-- an answer has exactly the dirty pages
pub answers_exactly : (guest : Guest) (later earlier : List Event) (r at : ℕ) (pages : List ℕ) → IsLegalSoFar guest (later ++ Synced r at pages ∷ earlier) → AnswersExactly guest earlier pages
answers_exactly guest later earlier r at pages legal =
    answer_facts guest earlier r at pages (earlier_legal guest later (Synced r at pages ∷ earlier) legal).0

pub answer_rises : (guest : Guest) (past : List Event) → IsLegalSoFar guest past → IsRising (pages_of (last_synced past))
answer_rises guest [] legal = tt
answer_rises guest (Synced r at pages ∷ past) legal =
    subst IsRising (sym (answer_facts guest past r at pages legal.0)) (rising_filter (λ page. dirty page past) (page_count guest))
answer_rises guest (e ∷ past) legal = answer_rises guest past legal.1

next_facts : (guest : Guest) (r page : ℕ) (synced : Option (Event × List Event)) (later : List Event) → is_next_copy guest r page synced later ≡ true → is_least_uncopied page (pages_of synced) later ≡ true
next_facts guest r page None later h = cc
next_facts guest r page (Some synced) later h = (and_parts _ _ h).1

pub copy_facts : (guest : Guest) (past : List Event) (r page : ℕ) → broken guest past (Copied r page) ≡ None → is_least_uncopied page (pages_of (last_synced past)) (since is_synced past) ≡ true
unfolding copies_next
copy_facts guest past r page h =
    next_facts guest r page (last_synced past) (since is_synced past)
    (and_parts _ _ (keeps guest past (Copied r page) h).copies_next_holds).1

same_all : (p q : ℕ → Bool) (xs : List ℕ) → ((x : ℕ) → p x ≡ q x) → list_all p xs ≡ list_all q xs
same_all p q [] h = refl
same_all p q (x ∷ xs) h = ap (λ b. b && list_all p xs) (h x) ∙ ap (λ b. q x && b) (same_all p q xs h)

-- where the first i are copied, the least that isn't is the one numbered i
least_is_next : (q i : ℕ) (pages : List ℕ) (later : List Event) → IsRising pages → ((x : ℕ) → copied_in later x ≡ among x (take i pages)) → is_least_uncopied q pages later ≡ is_number q (slice_get pages i)
least_is_next q i pages later rises is =
    ap (λ b. among q pages && not b && list_all (λ x. nat_le q x || copied_in later x) pages) (is q)
    ∙ ap (λ b. among q pages && not (among q (take i pages)) && b) (same_all (λ x. nat_le q x || copied_in later x) (λ x. nat_le q x || among x (take i pages)) pages (λ x. ap (λ b. nat_le q x || b) (is x)))
    ∙ least_after q i pages rises

take_next : (i page : ℕ) (pages : List ℕ) → is_number page (slice_get pages i) ≡ true → take (i + 1) pages ≡ take i pages ++ page ∷ []
take_next i page [] h = cc
take_next zero page (x ∷ xs) h = ap (λ y. y ∷ []) (eqb-true x page h)
take_next (suc i) page (x ∷ xs) h = ap (λ k. take k (x ∷ xs)) (add-one (suc i)) ∙ ap (λ ys. x ∷ ys) (ap (λ k. take k xs) (sym (add-one i)) ∙ take_next i page xs h)

or_flip : (a b : Bool) → (a || b) ≡ (b || (a || false))
or_flip true true = refl
or_flip true false = refl
or_flip false true = refl
or_flip false false = refl

pub copied_first : (guest : Guest) (past : List Event) (q : ℕ) → IsLegalSoFar guest past → copied_in (since is_synced past) q ≡ among q (take (copies past) (pages_of (last_synced past)))
copied_first guest [] q legal = refl
copied_first guest (Synced r at pages ∷ past) q legal = refl
copied_first guest (Copied r page ∷ past) q legal =
    let pages : List ℕ = pages_of (last_synced past) in
    let next : is_number page (slice_get pages (copies past)) ≡ true =
    sym (least_is_next page (copies past) pages (since is_synced past) (answer_rises guest past legal.1) (λ x. copied_first guest past x legal.1)) ∙ copy_facts guest past r page legal.0 in
    ap (λ b. (page == q) || b) (copied_first guest past q legal.1)
    ∙ or_flip (page == q) (among q (take (copies past) pages))
    ∙ sym (ap (among q) (take_next (copies past) page pages next) ∙ list_any-append (λ x. x == q) (take (copies past) pages) (page ∷ []))
copied_first guest (e ∷ past) q legal = copied_first guest past q legal.1

-- the page to be copied next is the one of that number
pub next_copy : (guest : Guest) (past : List Event) (page : ℕ) → IsLegalSoFar guest past → is_least_uncopied page (pages_of (last_synced past)) (since is_synced past) ≡ is_number page (slice_get (pages_of (last_synced past)) (copies past))
next_copy guest past page legal =
    least_is_next page (copies past) (pages_of (last_synced past)) (since is_synced past) (answer_rises guest past legal) (λ x. copied_first guest past x legal)

skip_first : (x : ℕ) (ys zs : List ℕ) → AllAbove x ys → list_all (λ y. among y (x ∷ zs)) ys ≡ list_all (λ y. among y zs) ys
skip_first x [] zs h = refl
skip_first x (y ∷ ys) zs h =
    let lt : x < y = h.0 in
    let ne : (x == y) ≡ false = ne_eqb x y (λ e. omega (arith, e, lt)) in
    ap (λ b. (b || among y zs) && list_all (λ u. among u (x ∷ zs)) ys) ne ∙ ap (λ b. among y zs && b) (skip_first x ys zs h.1)

same_le : (a b : ℕ) → nat_le a b ≡ nat_le (suc a) (suc b)
same_le a b =
    elim (cases_lt b a) [
      | inl l ↦ lt-leb a b l ∙ sym (lt-leb (suc a) (suc b) (omega (arith, l)))
      | inr le ↦ le-leb a b le ∙ sym (le-leb (suc a) (suc b) (omega (arith, le)))
    ]

all_in : (i : ℕ) (xs : List ℕ) → IsRising xs → list_all (λ x. among x (take i xs)) xs ≡ nat_le (length xs) i
all_in i [] r = sym (le-leb 0 i (omega arith))
all_in zero (x ∷ xs) r = sym (lt-leb (suc (length xs)) 0 (omega arith))
all_in (suc i) (x ∷ xs) r =
    ap (λ b. (b || among x (take i xs)) && list_all (λ y. among y (x ∷ take i xs)) xs) (eq-eqb x x refl)
    ∙ skip_first x xs (take i xs) r.0
    ∙ all_in i xs r.1
    ∙ same_le (length xs) i

-- all pages of the last answer are copied where there are as many copies
pub all_copied : (guest : Guest) (past : List Event) → IsLegalSoFar guest past → list_all (copied_in (since is_synced past)) (pages_of (last_synced past)) ≡ nat_le (length (pages_of (last_synced past))) (copies past)
all_copied guest past legal =
    same_all (copied_in (since is_synced past)) (λ x. among x (take (copies past) (pages_of (last_synced past)))) (pages_of (last_synced past)) (λ x. copied_first guest past x legal)
    ∙ all_in (copies past) (pages_of (last_synced past)) (answer_rises guest past legal)
