-- The copies since the last answer, which are all of its round.
use Rattle.std.proofs.Common.{◌≡◌, ℕ, zero, suc, ◌<◌, Bool, true, false, List, [], ◌∷◌, Option, Some, None, Contains, refl, ap, sym, ◌∙◌, arith, inl, inr, subst}
use Rattle.std.specs.Prelude.{◌==◌}
use Rattle.std.specs.List.{list_all}
use Rattle.std.proofs.lemmas.Bool.{and_parts, and_from, eqb-true, eq-eqb, false≢true}
use Rattle.std.proofs.lemmas.Bool.Decides.{eqb_tells}
use Rattle.std.proofs.lemmas.List.Elements.{Contains-append_right}
use Rattle.std.proofs.lemmas.List.Folds.{list_any_at}
use Rattle.dr_types.specs.declared.guest.Guest.{Guest}
use Rattle.dr_history.specs.declared.event.Event.{Event}
use Rattle.dr_history.specs.declared.event.Event.TheVariants.{Synced, Copied}
use Rattle.dr_history.specs.Kinds.{is_synced, copies_page}
use Rattle.dr_history.specs.Legality.{IsLegalSoFar, broken}
use Rattle.dr_history.specs.Lookback.{since}
use Rattle.dr_history.specs.Rounds.{last_synced, copied_in, is_next_copy, answered_round}
use Rattle.dr_history.specs.Rules.{copies_next}
use Rattle.dr_history_law.proofs.Kept.{keeps}
use Rattle.dr_turns.specs.Due.{round_of}
use Rattle.dr_schedule_law.specs.Spent.{CopiesEach}

next_round : (guest : Guest) (r page : ℕ) (synced : Option (Event × List Event)) (later : List Event)
    → is_next_copy guest r page synced later ≡ true → r ≡ round_of synced
next_round guest r page None later h = absurd (false≢true h)
next_round guest r page (Some synced) later h =
    sym (eqb-true (answered_round synced.0) r (and_parts _ _ (and_parts _ _ h).0).0)

-- a Copied is of the round of the last answer
copy_round : (guest : Guest) (past : List Event) (r page : ℕ) → broken guest past (Copied r page) ≡ None
    → r ≡ round_of (last_synced past)
unfolding copies_next
copy_round guest past r page h =
    next_round guest r page (last_synced past) (since is_synced past)
    (and_parts _ _ (keeps guest past (Copied r page) h).copies_next_holds).1

-- what these events have, they have with one more
pub one_more : (e other : Event) (xs : List Event) → Contains xs other → Contains (e ∷ xs) other
one_more e other xs h = Contains-append_right (e ∷ []) xs other h

-- a page that is copied since the last answer is copied for its round
copied_for_round : (guest : Guest) (past : List Event) (page : ℕ) → IsLegalSoFar guest past
    → copied_in (since is_synced past) page ≡ true
    → Contains (since is_synced past) (Copied (round_of (last_synced past)) page)
copied_for_round guest [] page legal h = absurd (false≢true h)
copied_for_round guest (Synced r at pages ∷ past) page legal h = absurd (false≢true h)
copied_for_round guest (Copied r q ∷ past) page legal h =
    elim (eqb_tells q page) [
      | inl same ↦
          let round : r ≡ round_of (last_synced past) = copy_round guest past r q legal.0 in
          let is : q ≡ page = same.1 in
          (0, omega arith, cc)
      | inr other ↦
          one_more (Copied r q) (Copied (round_of (last_synced past)) page) (since is_synced past)
          (copied_for_round guest past page legal.1
          (let not_it : (q == page) ≡ false = other.0 in rw not_it at h))
    ]
copied_for_round guest (e ∷ past) page legal h =
    one_more e (Copied (round_of (last_synced past)) page) (since is_synced past)
    (copied_for_round guest past page legal.1 h)

-- a page that is copied for a round is copied
copied_at_all : (r page : ℕ) (later : List Event) → Contains later (Copied r page)
    → copied_in later page ≡ true
copied_at_all r page later h =
    list_any_at (copies_page page) later h.0 (Copied r page) h.1
    (ap (copies_page page) h.2 ∙ eq-eqb page page refl)

first_in : (x : ℕ) (xs : List ℕ) → Contains (x ∷ xs) x
first_in x xs = (0, omega arith, refl)

next_in : (x y : ℕ) (xs : List ℕ) → Contains xs y → Contains (x ∷ xs) y
next_in x y xs h = Contains-append_right (x ∷ []) xs y h

-- what holds of all of these numbers holds of each
all_tells : (passes : ℕ → Bool) (xs : List ℕ) → list_all passes xs ≡ true → (x : ℕ) → Contains xs x
    → passes x ≡ true
all_tells passes [] h x inside = absurd (let lt : inside.0 < 0 = inside.1 in omega arith)
all_tells passes (y ∷ ys) h x (zero, lt, is) =
    subst (λ (n : ℕ). passes n ≡ true) is (and_parts _ _ h).0
all_tells passes (y ∷ ys) h x (suc k, lt, is) =
    all_tells passes ys (and_parts _ _ h).1 x (k, omega (arith, lt), is)

-- what holds of each of these numbers holds of all
all_from_each : (passes : ℕ → Bool) (xs : List ℕ) → ((x : ℕ) → Contains xs x → passes x ≡ true)
    → list_all passes xs ≡ true
all_from_each passes [] each = refl
all_from_each passes (x ∷ xs) each =
    and_from _ _ (each x (first_in x xs))
    (all_from_each passes xs (λ y inside. each y (next_in x y xs inside)))

-- where each page of the last answer is copied since, each is copied for its round
pub copies_each : (guest : Guest) (past : List Event) (pages : List ℕ) → IsLegalSoFar guest past
    → list_all (copied_in (since is_synced past)) pages ≡ true
    → CopiesEach (round_of (last_synced past)) pages (since is_synced past)
copies_each guest past pages legal all page inside =
    copied_for_round guest past page legal
    (all_tells (copied_in (since is_synced past)) pages all page inside)

-- where each page is copied for a round, all are copied
pub all_are_copied : (r : ℕ) (pages : List ℕ) (later : List Event) → CopiesEach r pages later
    → list_all (copied_in later) pages ≡ true
all_are_copied r pages later each =
    all_from_each (copied_in later) pages (λ page inside. copied_at_all r page later (each page inside))
