-- Each answer covers every entry that was opened before it was asked.
use Rattle.std.proofs.Common.{◌≡◌, ℕ, ◌+◌, ◌<◌, ◌≤◌, Bool, true, false, cond, List, [], ◌∷◌, Option, None, Some, inl, inr, refl, arith, ap, ◌∙◌, subst}
use Rattle.std.specs.Prelude.{◌||◌, ◌&&◌, ◌==◌}
use Rattle.std.specs.List.{list_any, list_all}
use Rattle.std.proofs.lemmas.Bool.{eqb-true, eq-eqb, and_parts, or_parts, or_left, false_from_ne_true, both_ways, true≢false, false≢true, cases_Bool, cases_eq}
use Rattle.dr_types.specs.declared.guest.Guest.{Guest}
use Rattle.dr_types.specs.Pages.{page_count}
use Rattle.dr_history.specs.declared.event.Event.{Event}
use Rattle.dr_history.specs.declared.event.Event.TheVariants.{Opened, Reset, Flushed, Synced}
use Rattle.dr_history.specs.Lookback.{before, since, is_number}
use Rattle.dr_history.specs.Kinds.{is_asked, is_flushed, opens_entry, resets_entry}
use Rattle.dr_history.specs.Entries.{opens, pushes, page_of_entry, or_else}
use Rattle.dr_history.specs.Protection.{closing}
use Rattle.dr_history.specs.Rounds.{is_reset_in}
use Rattle.dr_history.specs.Legality.{IsLegalSoFar, broken}
use Rattle.dr_history_law.specs.Cover.{CoversOpened}
use Rattle.dr_history_law.proofs.Kept.{opens_facts, resets_facts, syncs_facts}
use Rattle.dr_history_law.proofs.Outstanding.{pushed_opened, deposited_pushed}
use Rattle.dr_history_law.proofs.Listing.{none_below, either}

-- the entry has a page of the guest
abbrev HasPage : Guest → List Event → ℕ → ℕ → Type 0
HasPage guest past v k = (page : ℕ) × (page < page_count guest) × (page_of_entry v k past ≡ Some page)

here : (b : Bool) (q : ℕ) (rest : Option ℕ) → b ≡ true → or_else (cond b (Some q) None) rest ≡ Some q
here true q rest h = refl
here false q rest h = absurd (false≢true h)

there : (b : Bool) (q page : ℕ) (rest : Option ℕ) → b ≡ false → rest ≡ Some page → or_else (cond b (Some q) None) rest ≡ Some page
there true q page rest h r = absurd (true≢false h)
there false q page rest h r = r

-- an entry that isn't the newest was opened earlier
not_newest : (same : Bool) (j k n : ℕ) → (same ≡ true → j ≡ n) → (same && j == k) ≡ false → k < cond same (n + 1) n → k < n
not_newest true j k n f h l =
    let e : j ≡ n = f refl in
    elim (cases_eq j k) [
      | inl s ↦ absurd (both_ways (j == k) h (eq-eqb j k s))
      | inr d ↦ omega (arith, e, d)
    ]
not_newest false j k n f h l = l

opened_page : (guest : Guest) (past : List Event) (v k : ℕ) → IsLegalSoFar guest past → k < opens v past → HasPage guest past v k
unfolding page_of_entry
opened_page guest [] v k legal l = absurd (omega arith)
opened_page guest (Opened w j q ∷ past) v k legal l =
    let facts = opens_facts guest past w j q legal.0 in
    elim (cases_Bool (w == v && j == k)) [
      | inl t ↦ (q, facts.named, here (w == v && j == k) q (page_of_entry v k past) t)
      | inr f ↦
          let found : HasPage guest past v k = opened_page guest past v k legal.1 (not_newest (w == v) j k (opens v past) (λ s. facts.number ∙ ap (λ (u : ℕ). opens u past) (eqb-true w v s)) f l) in
          (found.0, found.1, there (w == v && j == k) q found.0 (page_of_entry v k past) f found.2)
    ]
opened_page guest (e ∷ past) v k legal l = opened_page guest past v k legal.1 l

-- some page of the guest is closing
abbrev SomeCloses : Guest → List Event → Type 0
SomeCloses guest past = (page : ℕ) × (page < page_count guest) × (closing page past ≡ true)

own_page : (page : ℕ) (o : Option ℕ) → o ≡ Some page → is_number page o ≡ true
own_page page o h = ap (λ (p : Option ℕ). is_number page p) h ∙ eq-eqb page page refl

reset_closes : (guest : Guest) (past : List Event) (w j : ℕ) → IsLegalSoFar guest past → broken guest past (Reset w j) ≡ None → SomeCloses guest (Reset w j ∷ past)
reset_closes guest past w j legal h =
    let pushed : j < pushes w past = deposited_pushed guest past w j legal (resets_facts guest past w j h).deposited in
    let opened : pushes w past ≤ opens w past = pushed_opened guest past w legal in
    let found : HasPage guest past w j = opened_page guest past w j legal (omega arith) in
    (found.0, found.1, or_left (is_number found.0 (page_of_entry w j past)) (closing found.0 past) (own_page found.0 (page_of_entry w j past) found.2))

-- after a Reset that no Flushed followed, some page is closing
some_closes : (guest : Guest) (past : List Event) (v k : ℕ) → IsLegalSoFar guest past → list_any (resets_entry v k) (since is_flushed past) ≡ true → SomeCloses guest past
some_closes guest [] v k legal h = absurd (false≢true h)
some_closes guest (Reset w j ∷ past) v k legal h = reset_closes guest past w j legal.1 legal.0
some_closes guest (Flushed ∷ past) v k legal h = absurd (false≢true h)
some_closes guest (e ∷ past) v k legal h = some_closes guest past v k legal.1 h

or_rest : (a b : Bool) → a ≡ false → (a || b) ≡ true → b ≡ true
or_rest true b f h = absurd (true≢false f)
or_rest false b f h = h

-- a Reset that didn't come after the last Flushed came before it
reset_before : (v k : ℕ) (past : List Event) → list_any (resets_entry v k) past ≡ true → list_any (resets_entry v k) (since is_flushed past) ≡ false → list_any (resets_entry v k) (before is_flushed past) ≡ true
reset_before v k [] h n = h
reset_before v k (Reset w j ∷ past) h n =
    let parts = or_parts (w == v && j == k) (list_any (resets_entry v k) (since is_flushed past)) n in
    reset_before v k past (or_rest (w == v && j == k) (list_any (resets_entry v k) past) parts.0 h) parts.1
reset_before v k (Flushed ∷ past) h n = h
reset_before v k (e ∷ past) h n = reset_before v k past h n

-- where the entries opened in some events are reset, each of them is
reset_each : (v k : ℕ) (xs ys : List Event) → list_all (is_reset_in xs) ys ≡ true → list_any (opens_entry v k) ys ≡ true → list_any (resets_entry v k) xs ≡ true
reset_each v k xs [] h o = absurd (false≢true o)
reset_each v k xs (Opened w j q ∷ ys) h o =
    let parts = and_parts (list_any (resets_entry w j) xs) (list_all (is_reset_in xs) ys) h in
    either (w == v && j == k) (list_any (opens_entry v k) ys) (list_any (resets_entry v k) xs ≡ true)
    (λ t.
    let both = and_parts (w == v) (j == k) t in
    subst (λ (i : ℕ). list_any (resets_entry v i) xs ≡ true) (eqb-true j k both.1)
    (subst (λ (u : ℕ). list_any (resets_entry u j) xs ≡ true) (eqb-true w v both.0) parts.0))
    (reset_each v k xs ys parts.1) o
reset_each v k xs (e ∷ ys) h o = reset_each v k xs ys h o

pub covers_opened : (guest : Guest) (past : List Event) (r at : ℕ) (pages : List ℕ) → IsLegalSoFar guest (Synced r at pages ∷ past) → CoversOpened past
covers_opened guest past r at pages legal v k o =
    let facts = syncs_facts guest past r at pages legal.0 in
    reset_before v k past (reset_each v k past (before is_asked past) facts.reset o)
    (false_from_ne_true (list_any (resets_entry v k) (since is_flushed past)) (λ t.
    let found : SomeCloses guest past = some_closes guest past v k legal.1 t in
    both_ways (closing found.0 past) (none_below (λ p. closing p past) (page_count guest) found.0 facts.flushed found.1) found.2))
