-- Pages of zeros that are copied together are each copied as if alone.
use Rattle.std.proofs.Common.{◌≡◌, ℕ, zero, suc, ◌+◌, ◌-◌, ◌<◌, ◌≤◌, Bool, true, false, cond, List, [], ◌∷◌, Option, Some, None, refl, ap, sym, subst, ◌∙◌, arith, drop, slice_get}
use Rattle.std.specs.Prelude.{◌==◌, ◌&&◌}
use Rattle.std.proofs.lemmas.Bool.{and_parts, eqb-true}
use Rattle.dr_types.specs.declared.guest.Guest.{Guest}
use Rattle.dr_types.specs.Pages.{page_count}
use Rattle.dr_history.specs.declared.event.Event.{Event}
use Rattle.dr_history.specs.declared.event.Event.TheVariants.{Copied}
use Rattle.dr_history.specs.Legality.{IsLegalSoFar}
use Rattle.dr_history.specs.Memory.{zero_page}
use Rattle.dr_history.specs.Protection.{started}
use Rattle.dr_history.specs.Rounds.{unanswered, last_synced, opens_round, answered_pages}
use Rattle.dr_history_law.specs.Copies.{copies, pages_of}
use Rattle.dr_history_law.proofs.Named.{next_within}
use Rattle.dr_turns.specs.Due.{page_to_copy_of, zeros_from, zeros_to_copy, copies_from, round_of}
use Rattle.dr_turns_law.proofs.Cases.{CopyDue}

-- copies change none of these
same_started : (r first n : ℕ) (past : List Event) → started (copies_from r first n past) ≡ started past
same_started r first zero past = refl
same_started r first (suc n) past = same_started r first n past

same_unanswered : (r first n : ℕ) (past : List Event) → unanswered (copies_from r first n past) ≡ unanswered past
same_unanswered r first zero past = refl
same_unanswered r first (suc n) past = same_unanswered r first n past

pub same_synced : (r first n : ℕ) (past : List Event) → last_synced (copies_from r first n past) ≡ last_synced past
same_synced r first zero past = refl
same_synced r first (suc n) past = same_synced r first n past

-- and are so many more
pub more_copies : (r first n : ℕ) (past : List Event) → copies (copies_from r first n past) ≡ copies past + n
more_copies r first zero past = omega arith
more_copies r first (suc n) past = let before : copies (copies_from r first n past) ≡ copies past + n = more_copies r first n past in omega (arith, before)

-- each of these pages stands at its place
one_place : (guest : Guest) (past : List Event) (first q n : ℕ) (pages : List ℕ) (here : Bool) → (q == first && zero_page guest q past) ≡ here → ((i : ℕ) → i < n → slice_get pages i ≡ Some (first + 1 + i)) → (i : ℕ) → i < cond here (suc n) 0 → slice_get (q ∷ pages) i ≡ Some (first + i)
one_place guest past first q n pages false is rest i lt = absurd (omega (arith, lt))
one_place guest past first q n pages true is rest zero lt =
    let same : q ≡ first = eqb-true q first (and_parts (q == first) (zero_page guest q past) is).0 in
    ap Some (omega (arith, same))
one_place guest past first q n pages true is rest (suc i) lt = rest i (omega (arith, lt)) ∙ ap Some (omega arith)

run_place : (guest : Guest) (past : List Event) (first : ℕ) (pages : List ℕ) (i : ℕ) → i < zeros_from guest past first pages → slice_get pages i ≡ Some (first + i)
run_place guest past first [] i lt = absurd (omega (arith, lt))
run_place guest past first (q ∷ pages) i lt =
    one_place guest past first q (zeros_from guest past (first + 1) pages) pages (q == first && zero_page guest q past) refl (run_place guest past (first + 1) pages) i lt

-- and is zero
one_zero : (guest : Guest) (past : List Event) (first q n : ℕ) (here : Bool) → (q == first && zero_page guest q past) ≡ here → ((i : ℕ) → i < n → zero_page guest (first + 1 + i) past ≡ true) → (i : ℕ) → i < cond here (suc n) 0 → zero_page guest (first + i) past ≡ true
one_zero guest past first q n false is rest i lt = absurd (omega (arith, lt))
one_zero guest past first q n true is rest zero lt =
    let parts = and_parts (q == first) (zero_page guest q past) is in
    let same : q ≡ first = eqb-true q first parts.0 in
    ap (λ p. zero_page guest p past) (omega (arith, same)) ∙ parts.1
one_zero guest past first q n true is rest (suc i) lt = ap (λ p. zero_page guest p past) (omega arith) ∙ rest i (omega (arith, lt))

pub run_zero : (guest : Guest) (past : List Event) (first : ℕ) (pages : List ℕ) (i : ℕ) → i < zeros_from guest past first pages → zero_page guest (first + i) past ≡ true
run_zero guest past first [] i lt = absurd (omega (arith, lt))
run_zero guest past first (q ∷ pages) i lt =
    one_zero guest past first q (zeros_from guest past (first + 1) pages) (q == first && zero_page guest q past) refl (run_zero guest past (first + 1) pages) i lt

pub drop_place : (xs : List ℕ) (n i : ℕ) → slice_get (drop n xs) i ≡ slice_get xs (n + i)
drop_place xs zero i = ap (slice_get xs) (omega arith)
drop_place [] (suc n) i = refl
drop_place (x ∷ xs) (suc n) i =
    let number : suc (n + i) ≡ suc n + i = omega arith in
    drop_place xs n i ∙ ap (slice_get (x ∷ xs)) number

-- each is a page of the guest
pub run_within : (guest : Guest) (past : List Event) (page k : ℕ) → IsLegalSoFar guest past → k < zeros_to_copy guest past page → page + k < page_count guest
run_within guest past page k legal lt =
    next_within guest past (copies past + k) (page + k) legal
    (sym (drop_place (pages_of (last_synced past)) (copies past) k) ∙ run_place guest past page (drop (copies past) (pages_of (last_synced past))) k lt)

is_open : (guest : Guest) (past later : List Event) (o : Option (Event × List Event)) (page next : ℕ) → page_to_copy_of guest past o ≡ Some page → slice_get (pages_of o) (copies later) ≡ Some next → page_to_copy_of guest later o ≡ Some next
is_open guest past later None page next h at = cc
is_open guest past later (Some s) page next h at = opened (opens_round guest s.0 s.1) (slice_get (answered_pages s.0) (copies past)) (slice_get (answered_pages s.0) (copies later)) page next h at
  where
    opened : (opens : Bool) (a b : Option ℕ) (page next : ℕ) → cond opens a None ≡ Some page → b ≡ Some next → cond opens b None ≡ Some next
    opened true a b page next h at = at
    opened false a b page next h at = cc

-- where so many are to be copied together, each is the one to be copied next once those before it are
pub run_due : (guest : Guest) (past : List Event) (r page k : ℕ) → CopyDue guest past page → k < zeros_to_copy guest past page → CopyDue guest (copies_from r page k past) (page + k)
run_due guest past r page k due lt =
    let place : slice_get (pages_of (last_synced past)) (copies (copies_from r page k past)) ≡ Some (page + k) =
    ap (slice_get (pages_of (last_synced past))) (more_copies r page k past)
    ∙ sym (drop_place (pages_of (last_synced past)) (copies past) k)
    ∙ run_place guest past page (drop (copies past) (pages_of (last_synced past))) k lt in
    record {
      begun = same_started r page k past ∙ due.begun;
      answered = same_unanswered r page k past ∙ due.answered;
      next = ap (page_to_copy_of guest (copies_from r page k past)) (same_synced r page k past)
          ∙ is_open guest past (copies_from r page k past) (last_synced past) page (page + k) due.next place;
    }

-- what each copy keeps, they keep together
pub run_keeps : (P : List Event → Type 0) (guest : Guest) (past : List Event) (page n : ℕ) → CopyDue guest past page → n ≤ zeros_to_copy guest past page → P past → ((xs : List Event) (q : ℕ) → CopyDue guest xs q → P xs → P (Copied (round_of (last_synced xs)) q ∷ xs)) → P (copies_from (round_of (last_synced past)) page n past)
run_keeps P guest past page zero due le start on = start
run_keeps P guest past page (suc n) due le start on =
    let r : ℕ = round_of (last_synced past) in
    let before : P (copies_from r page n past) = run_keeps P guest past page n due (omega (arith, le)) start on in
    subst (λ (k : ℕ). P (Copied k (page + n) ∷ copies_from r page n past)) (ap round_of (same_synced r page n past))
    (on (copies_from r page n past) (page + n) (run_due guest past r page n due (omega (arith, le))) before)

-- the same where the copies alone are looked at
pub run_on : (P : List Event → Type 0) (r page n : ℕ) (past : List Event) → P past → ((q : ℕ) (xs : List Event) → P xs → P (Copied r q ∷ xs)) → P (copies_from r page n past)
run_on P r page zero past start on = start
run_on P r page (suc n) past start on = on (page + n) (copies_from r page n past) (run_on P r page n past start on)

-- the last of them is a page of the guest
pub run_fits : (guest : Guest) (past : List Event) (page : ℕ) → IsLegalSoFar guest past → 1 ≤ zeros_to_copy guest past page → page + zeros_to_copy guest past page ≤ page_count guest
run_fits guest past page legal some =
    let n = zeros_to_copy guest past page in
    let last : page + (n - 1) < page_count guest = run_within guest past page (n - 1) legal (omega (arith, some)) in
    omega (arith, some, last)
