-- Entries by their numbers.
use Rattle.std.proofs.Common.{◌≡◌, ℕ, zero, suc, ◌+◌, ◌<◌, ◌≤◌, Bool, true, false, cond, List, [], ◌∷◌, refl, ap, sym, ◌∙◌, arith, inl, inr, subst}
use Rattle.std.specs.Prelude.{◌==◌, ◌||◌, ◌&&◌, nat_le, nat_lt, Option, Some, None, is_some}
use Rattle.std.specs.List.{list_any}
use Rattle.std.proofs.lemmas.Bool.{and_parts, ne_eqb, le-leb, lt-ltb, leb-true, ltb-true, cases_lt, and_from, false_from_ne_true, or_left, or_right}
use Rattle.std.proofs.lemmas.Bool.Decides.{eqb_tells}
use Rattle.std.proofs.lemmas.List.Folds.{list_any-append}
use Rattle.dr_types.specs.declared.guest.Guest.{Guest}
use Rattle.dr_history.specs.declared.event.Event.{Event}
use Rattle.dr_history.specs.declared.event.Event.TheVariants.{Opened, Deposited}
use Rattle.dr_history.specs.Lookback.{below}
use Rattle.dr_history.specs.Entries.{opens, page_of_entry, or_else}
use Rattle.dr_history.specs.Legality.{IsLegalSoFar, broken}
use Rattle.std.specs.Prelude.{IfSome}
use Rattle.dr_types.specs.Pages.{page_count}
use Rattle.dr_history.specs.Rules.{names_exist, deposits_entry, deposits_some, deposits_pushed}
use Rattle.dr_history_law.proofs.Kept.{keeps, opens_facts}
use Rattle.dr_history_law.proofs.Outstanding.{at_same, deposited_pushed, pushed_opened}
use Rattle.dr_history_law.proofs.Covered.{same_test}

-- an entry from the count on was never deposited
pub undeposited : (guest : Guest) (past : List Event) (v k : ℕ) → IsLegalSoFar guest past → opens v past ≤ k → list_any (deposits_entry v k) past ≡ false
undeposited guest past v k legal le =
    false_from_ne_true _ (λ h. omega (arith, le, deposited_pushed guest past v k legal h, pushed_opened guest past v legal))

unopened_case : (same : Bool) (j k n page : ℕ) (rest : Option ℕ) → (same ≡ true → j ≡ n) → (n ≤ k → rest ≡ None) → cond same (n + 1) n ≤ k → or_else (cond (same && j == k) (Some page) None) rest ≡ None
unopened_case true j k n page rest f g h =
    let e : j ≡ n = f refl in
    let ne : (j == k) ≡ false = ne_eqb j k (λ q. omega (arith, q)) in
    rw ne (g (omega arith))
unopened_case false j k n page rest f g h = g h

-- and has no page
pub unopened : (guest : Guest) (past : List Event) (w k : ℕ) → IsLegalSoFar guest past → opens w past ≤ k → page_of_entry w k past ≡ None
unfolding page_of_entry
unopened guest [] w k legal h = refl
unopened guest (Opened v j page ∷ past) w k legal h =
    unopened_case (v == w) j k (opens w past) page (page_of_entry w k past) (at_same (λ u. opens u past) v w j (opens_facts guest past v j page legal.0).number) (unopened guest past w k legal.1) h
unopened guest (e ∷ past) w k legal h = unopened guest past w k legal.1 h

opened_case : (same : Bool) (j k n page : ℕ) (rest : Option ℕ) → (same ≡ true → j ≡ n) → (k < n → is_some rest ≡ true) → k < cond same (n + 1) n → is_some (or_else (cond (same && j == k) (Some page) None) rest) ≡ true
opened_case true j k n page rest f g h =
    let e : j ≡ n = f refl in
    elim (eqb_tells j k) [
      | inl s ↦ ap (λ b. is_some (or_else (cond b (Some page) None) rest)) s.0
      | inr d ↦ ap (λ b. is_some (or_else (cond b (Some page) None) rest)) d.0 ∙ g (omega (arith, d.1, e, h))
    ]
opened_case false j k n page rest f g h = g h

-- an entry below the count has one
pub has_page : (guest : Guest) (past : List Event) (w k : ℕ) → IsLegalSoFar guest past → k < opens w past → is_some (page_of_entry w k past) ≡ true
unfolding page_of_entry
has_page guest [] w k legal h = absurd (omega arith)
has_page guest (Opened v j page ∷ past) w k legal h =
    opened_case (v == w) j k (opens w past) page (page_of_entry w k past) (at_same (λ u. opens u past) v w j (opens_facts guest past v j page legal.0).number) (has_page guest past w k legal.1) h
has_page guest (e ∷ past) w k legal h = has_page guest past w k legal.1 h

-- some number of those from one up to another was deposited
any_at : (p : ℕ → Bool) (n k : ℕ) → k < n → p k ≡ true → list_any p (below n) ≡ true
any_at p zero k lt h = absurd (omega arith)
any_at p (suc n) k lt h =
    list_any-append p (below n) (n ∷ [])
    ∙ elim (cases_lt k n) [
      | inl l ↦ or_left (list_any p (below n)) (p n || false) (any_at p n k l h)
      | inr le ↦
          let e : k ≡ n = omega (arith, le, lt) in
          or_right (list_any p (below n)) (p n || false) (or_left (p n) false (subst (λ (u : ℕ). p u ≡ true) e h))
    ]

four : (a b c d : Bool) → ((a || b) || ((c || d) || false)) ≡ ((a || (c || false)) || (b || (d || false)))
four true b c d = refl
four false true true d = refl
four false true false d = refl
four false false true d = refl
four false false false d = refl

any_or : (p q : ℕ → Bool) (n : ℕ) → list_any (λ k. p k || q k) (below n) ≡ (list_any p (below n) || list_any q (below n))
any_or p q zero = refl
any_or p q (suc n) =
    list_any-append (λ k. p k || q k) (below n) (n ∷ [])
    ∙ ap (λ b. b || ((p n || q n) || false)) (any_or p q n)
    ∙ four (list_any p (below n)) (list_any q (below n)) (p n) (q n)
    ∙ sym (ap (λ b. b || list_any q (below (suc n))) (list_any-append p (below n) (n ∷ [])) ∙ ap (λ b. (list_any p (below n) || (p n || false)) || b) (list_any-append q (below n) (n ∷ [])))

any_none : (p : ℕ → Bool) (n : ℕ) → ((k : ℕ) → k < n → p k ≡ false) → list_any p (below n) ≡ false
any_none p zero h = refl
any_none p (suc n) h = list_any-append p (below n) (n ∷ []) ∙ ap (λ b. b || (p n || false)) (any_none p n (λ k lt. h k (omega arith))) ∙ ap (λ b. b || false) (h n (omega arith))

abbrev Found : (ℕ → Bool) → ℕ → Type 0
Found p n = (k : ℕ) × (k < n) × (p k ≡ true)

last_true : (b : Bool) → (b || false) ≡ true → b ≡ true
last_true true h = refl
last_true false h = h

found_or : (p : ℕ → Bool) (n : ℕ) (a : Bool) → (a ≡ true → Found p n) → (a || (p n || false)) ≡ true → Found p (suc n)
found_or p n true f h = let g = f refl in (g.0, omega (arith, g.1), g.2)
found_or p n false f h = (n, omega arith, last_true (p n) h)

any_found : (p : ℕ → Bool) (n : ℕ) → list_any p (below n) ≡ true → Found p n
any_found p zero h = cc
any_found p (suc n) h = found_or p n (list_any p (below n)) (any_found p n) (sym (list_any-append p (below n) (n ∷ [])) ∙ h)

span_case : (v w from to first end : ℕ) → from < to → first < end → ((v == w && nat_lt from end) && nat_lt first to) ≡ list_any (λ k. nat_le from k && ((v == w && nat_le first k) && nat_lt k end)) (below to)
span_case v w from to first end lt le =
    same_test _ _
    (λ h.
    let a = and_parts _ _ h in
    let b = and_parts _ _ a.0 in
    let x : from < end = ltb-true from end b.1 in
    let y : first < to = ltb-true first to a.1 in
    elim (cases_lt from first) [
      | inl l ↦ any_at (λ k. nat_le from k && ((v == w && nat_le first k) && nat_lt k end)) to first y
          (and_from _ _ (le-leb from first (omega (arith, l))) (and_from _ _ (and_from _ _ b.0 (le-leb first first (omega arith))) (lt-ltb first end le)))
      | inr g ↦ any_at (λ k. nat_le from k && ((v == w && nat_le first k) && nat_lt k end)) to from lt
          (and_from _ _ (le-leb from from (omega arith)) (and_from _ _ (and_from _ _ b.0 (le-leb first from g)) (lt-ltb from end x)))
    ])
    (λ h.
    let f = any_found (λ k. nat_le from k && ((v == w && nat_le first k) && nat_lt k end)) to h in
    let a = and_parts _ _ f.2 in
    let b = and_parts _ _ a.1 in
    let c = and_parts _ _ b.0 in
    let x : from ≤ f.0 = leb-true from f.0 a.0 in
    let y : first ≤ f.0 = leb-true first f.0 c.1 in
    let z : f.0 < end = ltb-true f.0 end b.1 in
    let t : f.0 < to = f.1 in
    and_from _ _ (and_from _ _ c.0 (lt-ltb from end (omega arith))) (lt-ltb first to (omega arith)))

ordered : (guest : Guest) (past : List Event) (v from to : ℕ) → broken guest past (Deposited v from to) ≡ None → from < to
unfolding deposits_pushed
ordered guest past v from to h = ltb-true from to (and_parts _ _ (and_parts _ _ (keeps guest past (Deposited v from to) h).deposits_pushed_holds).0).0

and_or : (a b c : Bool) → (a && (b || c)) ≡ ((a && b) || (a && c))
and_or true b c = refl
and_or false b c = refl

same_any : (p q : ℕ → Bool) (xs : List ℕ) → ((k : ℕ) → p k ≡ q k) → list_any p xs ≡ list_any q xs
same_any p q [] h = refl
same_any p q (x ∷ xs) h = ap (λ b. b || list_any p xs) (h x) ∙ ap (λ b. q x || b) (same_any p q xs h)

nothing : (b : Bool) → (b && false) ≡ false
nothing true = refl
nothing false = refl

pub some_deposited : (guest : Guest) (past : List Event) (w from to : ℕ) → from < to → IsLegalSoFar guest past → list_any (deposits_some w from to) past ≡ list_any (λ k. nat_le from k && list_any (deposits_entry w k) past) (below to)
some_deposited guest [] w from to lt legal = sym (any_none (λ k. nat_le from k && false) to (λ k l. nothing (nat_le from k)))
some_deposited guest (Deposited v first end ∷ past) w from to lt legal =
    ap (λ b. b || list_any (deposits_some w from to) past) (span_case v w from to first end lt (ordered guest past v first end legal.0))
    ∙ ap (λ b. list_any (λ k. nat_le from k && ((v == w && nat_le first k) && nat_lt k end)) (below to) || b) (some_deposited guest past w from to lt legal.1)
    ∙ sym (any_or (λ k. nat_le from k && ((v == w && nat_le first k) && nat_lt k end)) (λ k. nat_le from k && list_any (deposits_entry w k) past) to)
    ∙ same_any _ (λ k. nat_le from k && list_any (deposits_entry w k) (Deposited v first end ∷ past)) (below to) (λ k. sym (and_or (nat_le from k) ((v == w && nat_le first k) && nat_lt k end) (list_any (deposits_entry w k) past)))
some_deposited guest (e ∷ past) w from to lt legal = some_deposited guest past w from to lt legal.1

named_page : (guest : Guest) (past : List Event) (v k page : ℕ) → broken guest past (Opened v k page) ≡ None → page < page_count guest
unfolding names_exist
named_page guest past v k page h =
    ltb-true page (page_count guest) (and_parts _ _ (keeps guest past (Opened v k page) h).names_exist_holds).1

page_case : (b : Bool) (page n : ℕ) (rest : Option ℕ) → page < n → IfSome rest (λ p. p < n) → IfSome (or_else (cond b (Some page) None) rest) (λ p. p < n)
page_case true page n rest lt h = lt
page_case false page n rest lt h = h

-- the page of an entry is one of the guest
pub page_named : (guest : Guest) (past : List Event) (w k : ℕ) → IsLegalSoFar guest past → IfSome (page_of_entry w k past) (λ p. p < page_count guest)
unfolding page_of_entry
page_named guest [] w k legal = tt
page_named guest (Opened v j page ∷ past) w k legal =
    page_case (v == w && j == k) page (page_count guest) (page_of_entry w k past) (named_page guest past v j page legal.0) (page_named guest past w k legal.1)
page_named guest (e ∷ past) w k legal = page_named guest past w k legal.1

-- an event whose names exist is within the guest
pub named_vcpu : (guest : Guest) (past : List Event) (e : Event) → broken guest past e ≡ None → names_exist guest past e ≡ true
named_vcpu guest past e h = (keeps guest past e h).names_exist_holds
