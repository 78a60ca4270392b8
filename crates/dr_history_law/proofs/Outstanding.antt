-- A page is writable after Start exactly where one entry of it is outstanding.
use Rattle.std.proofs.Common.{◌≡◌, ℕ, suc, ◌+◌, ◌<◌, ◌≤◌, Bool, true, false, cond, List, [], ◌∷◌, Option, None, Some, refl, arith, ap, sym, ◌∙◌, subst}
use Rattle.std.specs.Prelude.{◌||◌, ◌&&◌, not, ◌==◌, nat_le, nat_lt}
use Rattle.std.specs.List.{list_any}
use Rattle.std.proofs.lemmas.Bool.Decides.{nat_tests}
use Rattle.std.proofs.lemmas.Bool.{and_parts, eqb-true, ne_eqb, ltb-true}
use Rattle.dr_types.specs.declared.guest.Guest.{Guest}
use Rattle.dr_history.specs.declared.event.Event.{Event}
use Rattle.dr_history.specs.declared.event.Event.TheVariants.{Opened, Pushed, Deposited, Reset}
use Rattle.dr_history.specs.Lookback.{count, is_number}
use Rattle.dr_history.specs.Kinds.{resets_entry}
use Rattle.dr_history.specs.Entries.{opens, pushes, resets, page_of_entry, or_else}
use Rattle.dr_history.specs.Protection.{writable, started, opened_last, resets_page}
use Rattle.dr_history.specs.Legality.{IsLegalSoFar}
use Rattle.dr_history.specs.Rules.{deposits_entry}
use Rattle.dr_history_law.specs.Outstanding.{is_outstanding, outstanding}
use Rattle.dr_history_law.proofs.Kept.{opens_facts, pushes_facts, deposits_facts, resets_facts}

-- numbers are given in their order, so a number from the count on was never given
numbered : (same : Bool) (j k n : ℕ) (rest : Bool) → (same ≡ true → j ≡ n) → (n ≤ k → rest ≡ false) → cond same (n + 1) n ≤ k → ((same && j == k) || rest) ≡ false
numbered true j k n rest f g h =
    let e : j ≡ n = f refl in
    let ne : (j == k) ≡ false = ne_eqb j k (λ q. omega (arith, q)) in
    rw ne (g (omega arith))
numbered false j k n rest f g h = g h

-- a number of one vCPU is one of another that is the same
pub at_same : (f : ℕ → ℕ) (v w k : ℕ) → k ≡ f v → (v == w) ≡ true → k ≡ f w
at_same f v w k e s = e ∙ ap f (eqb-true v w s)

pub unreset : (guest : Guest) (past : List Event) (w k : ℕ) → IsLegalSoFar guest past → resets w past ≤ k → list_any (resets_entry w k) past ≡ false
unreset guest [] w k legal h = refl
unreset guest (Reset v j ∷ past) w k legal h =
    numbered (v == w) j k (resets w past) (list_any (resets_entry w k) past)
    (at_same (λ u. resets u past) v w j (resets_facts guest past v j legal.0).number) (unreset guest past w k legal.1) h
unreset guest (e ∷ past) w k legal h = unreset guest past w k legal.1 h

-- one more where the test holds
pub more : (same : Bool) (a b : ℕ) → a ≤ b → a ≤ cond same (b + 1) b
more true a b h = omega arith
more false a b h = h

pub one_more : (same : Bool) (a b : ℕ) → (same ≡ true → a < b) → a ≤ b → cond same (a + 1) a ≤ b
one_more true a b f h = let lt : a < b = f refl in omega arith
one_more false a b f h = h

-- a pushed entry was opened
pub pushed_opened : (guest : Guest) (past : List Event) (w : ℕ) → IsLegalSoFar guest past → pushes w past ≤ opens w past
pushed_opened guest [] w legal = omega arith
pushed_opened guest (Opened v k q ∷ past) w legal = more (v == w) (pushes w past) (opens w past) (pushed_opened guest past w legal.1)
pushed_opened guest (Pushed v k ∷ past) w legal =
    let facts = pushes_facts guest past v k legal.0 in
    one_more (v == w) (pushes w past) (opens w past)
    (λ s. subst (λ (u : ℕ). pushes u past < opens u past) (eqb-true v w s) (subst (λ (n : ℕ). n < opens v past) facts.number facts.opened))
    (pushed_opened guest past w legal.1)
pushed_opened guest (e ∷ past) w legal = pushed_opened guest past w legal.1

deposit_case : (same low high rest : Bool) (G : Type 0) → (same ≡ true → high ≡ true → G) → (rest ≡ true → G) → (((same && low) && high) || rest) ≡ true → G
deposit_case true true true rest G f g h = f refl refl
deposit_case true true false rest G f g h = g h
deposit_case true false high rest G f g h = g h
deposit_case false low high rest G f g h = g h

-- a deposited entry was pushed
pub deposited_pushed : (guest : Guest) (past : List Event) (w k : ℕ) → IsLegalSoFar guest past → list_any (deposits_entry w k) past ≡ true → k < pushes w past
deposited_pushed guest [] w k legal h = cc
deposited_pushed guest (Pushed v j ∷ past) w k legal h = more (v == w) (suc k) (pushes w past) (deposited_pushed guest past w k legal.1 h)
deposited_pushed guest (Deposited v from to ∷ past) w k legal h =
    deposit_case (v == w) (nat_le from k) (nat_lt k to) (list_any (deposits_entry w k) past) (k < pushes w past)
    (λ s t.
    let bound : to ≤ pushes w past = subst (λ (u : ℕ). to ≤ pushes u past) (eqb-true v w s) (deposits_facts guest past v from to legal.0) in
    let lt : k < to = ltb-true k to t in omega arith)
    (deposited_pushed guest past w k legal.1) h
deposited_pushed guest (e ∷ past) w k legal h = deposited_pushed guest past w k legal.1 h

-- a reset entry was opened
pub reset_opened : (guest : Guest) (past : List Event) (w : ℕ) → IsLegalSoFar guest past → resets w past ≤ opens w past
reset_opened guest [] w legal = omega arith
reset_opened guest (Opened v k q ∷ past) w legal = more (v == w) (resets w past) (opens w past) (reset_opened guest past w legal.1)
reset_opened guest (Reset v k ∷ past) w legal =
    let facts = resets_facts guest past v k legal.0 in
    let pushed : k < pushes v past = deposited_pushed guest past v k legal.1 facts.deposited in
    let opened : pushes v past ≤ opens v past = pushed_opened guest past v legal.1 in
    let lt : resets v past < opens v past = subst (λ (n : ℕ). n < opens v past) facts.number (omega arith) in
    one_more (v == w) (resets w past) (opens w past)
    (λ s. subst (λ (u : ℕ). resets u past < opens u past) (eqb-true v w s) lt)
    (reset_opened guest past w legal.1)
reset_opened guest (e ∷ past) w legal = reset_opened guest past w legal.1

-- the event opens this entry as one of the page
abbrev pub opens_as : ℕ → ℕ → ℕ → Event → Bool
opens_as w k page (Opened v j q) = (w == v && k == j) && q == page
opens_as w k page e = false

count_none : (same : Bool) (page q j k n c : ℕ) → (same ≡ true → j ≡ n) → (n ≤ k → c ≡ 0) → cond same (n + 1) n ≤ k → cond ((same && k == j) && q == page) (c + 1) c ≡ 0
count_none true page q j k n c f g h =
    let e : j ≡ n = f refl in
    let ne : (k == j) ≡ false = ne_eqb k j (λ x. omega (arith, x)) in
    rw ne (g (omega arith))
count_none false page q j k n c f g h = g h

flip : (a b : ℕ) → (a == b) ≡ (b == a)
flip a b = grind (arith, nat_tests)

pub opened_none : (guest : Guest) (past : List Event) (w k page : ℕ) → IsLegalSoFar guest past → opens w past ≤ k → count (opens_as w k page) past ≡ 0
opened_none guest [] w k page legal h = refl
opened_none guest (Opened v j q ∷ past) w k page legal h =
    rw (flip w v) (count_none (v == w) page q j k (opens w past) (count (opens_as w k page) past)
    (at_same (λ u. opens u past) v w j (opens_facts guest past v j q legal.0).number) (opened_none guest past w k page legal.1) h)
opened_none guest (e ∷ past) w k page legal h = opened_none guest past w k page legal.1 h

unique_case : (here : Bool) (q page c : ℕ) (rest : Option ℕ) → (here ≡ true → c ≡ 0) → c ≡ cond (is_number page rest) 1 0 → cond (here && q == page) (c + 1) c ≡ cond (is_number page (or_else (cond here (Some q) None) rest)) 1 0
unique_case true q page c rest f g = ap (λ n. cond (q == page) (n + 1) n) (f refl)
unique_case false q page c rest f g = g

-- an entry has one Opened
pub unique : (guest : Guest) (past : List Event) (w k page : ℕ) → IsLegalSoFar guest past → count (opens_as w k page) past ≡ cond (is_number page (page_of_entry w k past)) 1 0
unfolding page_of_entry
unique guest [] w k page legal = refl
unique guest (Opened v j q ∷ past) w k page legal =
    rw (flip w v, flip k j)
    (unique_case (v == w && j == k) q page (count (opens_as w k page) past) (page_of_entry w k past)
    (λ s.
    let both = and_parts (v == w) (j == k) s in
    let number : j ≡ opens w past = at_same (λ u. opens u past) v w j (opens_facts guest past v j q legal.0).number both.0 in
    let same : j ≡ k = eqb-true j k both.1 in
    opened_none guest past w k page legal.1 (omega arith))
    (unique guest past w k page legal.1))
unique guest (e ∷ past) w k page legal = unique guest past w k page legal.1

drop_case : (here same gone : Bool) (l m n : ℕ) → (here ≡ true → gone ≡ false) → l ≡ m + n → cond (same && not gone) (l + 1) l ≡ cond (same && not (here || gone)) (m + 1) m + cond (here && same) (n + 1) n
drop_case true true true l m n f e = let h : true ≡ false = f refl in cc
drop_case true true false l m n f e = omega (arith, e)
drop_case true false gone l m n f e = e
drop_case false true true l m n f e = e
drop_case false true false l m n f e = omega (arith, e)
drop_case false false gone l m n f e = e

-- a Reset takes its own entry from those that are outstanding, and no other
pub dropped : (page w k : ℕ) (past xs : List Event) → list_any (resets_entry w k) past ≡ false → count (is_outstanding page past) xs ≡ count (is_outstanding page (Reset w k ∷ past)) xs + count (opens_as w k page) xs
dropped page w k past [] u = refl
dropped page w k past (Opened v j q ∷ xs) u =
    drop_case (w == v && k == j) (q == page) (list_any (resets_entry v j) past) _ _ _
    (λ s.
    let both = and_parts (w == v) (k == j) s in
    subst (λ (i : ℕ). list_any (resets_entry v i) past ≡ false) (eqb-true k j both.1)
    (subst (λ (x : ℕ). list_any (resets_entry x k) past ≡ false) (eqb-true w v both.0) u))
    (dropped page w k past xs u)
dropped page w k past (e ∷ xs) u = dropped page w k past xs u

open_case : (same gone last : Bool) (c : ℕ) → (same ≡ true → gone ≡ false) → (same ≡ true → last ≡ false) → c ≡ cond last 1 0 → cond (same && not gone) (c + 1) c ≡ cond (cond same true last) 1 0
open_case true true last c f g e = let h : true ≡ false = f refl in cc
open_case true false true c f g e = let h : true ≡ false = g refl in cc
open_case true false false c f g e = ap (λ n. n + 1) e
open_case false gone last c f g e = e

reset_count : (reset last : Bool) (l m n : ℕ) → l ≡ m + n → n ≡ cond reset 1 0 → l ≡ cond last 1 0 → m ≡ cond (cond reset false last) 1 0
reset_count true true l m n d r e = omega (arith, d, r, e)
reset_count true false l m n d r e = omega (arith, d, r, e)
reset_count false last l m n d r e = let z : n ≡ 0 = r in let s : m ≡ l = omega (arith, d, z) in s ∙ e

or_false_right : (a b : Bool) → (a || b) ≡ false → b ≡ false
or_false_right true b h = cc
or_false_right false b h = h

-- one entry is outstanding where the page was opened last, and none where it wasn't
pub last_outstanding : (guest : Guest) (past : List Event) (page : ℕ) → IsLegalSoFar guest past → outstanding page past ≡ cond (opened_last page past) 1 0
last_outstanding guest [] page legal = refl
last_outstanding guest (Opened w k q ∷ past) page legal =
    let facts = opens_facts guest past w k q legal.0 in
    let earlier : resets w past ≤ opens w past = reset_opened guest past w legal.1 in
    let number : k ≡ opens w past = facts.number in
    open_case (q == page) (list_any (resets_entry w k) past) (opened_last page past) (outstanding page past)
    (λ s. unreset guest past w k legal.1 (omega arith))
    (λ s. or_false_right _ _ (subst (λ (p : ℕ). writable p past ≡ false) (eqb-true q page s) facts.protected))
    (last_outstanding guest past page legal.1)
last_outstanding guest (Reset w k ∷ past) page legal =
    let facts = resets_facts guest past w k legal.0 in
    let number : k ≡ resets w past = facts.number in
    reset_count (resets_page page (Reset w k) past) (opened_last page past) (outstanding page past) (count (is_outstanding page (Reset w k ∷ past)) past) (count (opens_as w k page) past)
    (dropped page w k past past (unreset guest past w k legal.1 (omega arith)))
    (unique guest past w k page legal.1)
    (last_outstanding guest past page legal.1)
last_outstanding guest (e ∷ past) page legal = last_outstanding guest past page legal.1

-- after Start a page is writable exactly where one entry of it is outstanding
pub writable_outstanding : (guest : Guest) (past : List Event) (page : ℕ) → IsLegalSoFar guest past → started past ≡ true → outstanding page past ≡ cond (writable page past) 1 0
writable_outstanding guest past page legal s = last_outstanding guest past page legal ∙ ap (λ b. cond (not b || opened_last page past) 1 0) (sym s)
