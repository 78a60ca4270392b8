-- After the switch-over nothing is left to flush, to reset or to deposit.
use Rattle.std.proofs.Common.{◌≡◌, ℕ, zero, suc, ◌+◌, ◌<◌, ◌≤◌, Bool, true, false, cond, List, [], ◌∷◌, is_some, refl, ap, sym, ◌∙◌, subst, arith, inl, inr}
use Rattle.std.specs.Prelude.{◌==◌, ◌&&◌, ◌||◌, not, nat_le, nat_lt, Option, Some, None, IfSome}
use Rattle.std.specs.List.{list_any}
use Rattle.std.proofs.lemmas.Bool.{true≢false, false≢true, eqb-true, eq-eqb, and_parts, cases_lt}
use Rattle.std.proofs.lemmas.List.Folds.{list_any-append}
use Rattle.dr_types.specs.declared.guest.Guest.{Guest}
use Rattle.dr_types.specs.Pages.{page_count}
use Rattle.dr_history.specs.declared.event.Event.{Event}
use Rattle.dr_history.specs.declared.event.Event.TheVariants.{Opened, Deposited, Reset, Switched}
use Rattle.dr_history.specs.Lookback.{count, below}
use Rattle.dr_history.specs.Kinds.{is_switched, resets_entry}
use Rattle.dr_history.specs.Entries.{opens, pushes, resets, page_of_entry, or_else}
use Rattle.dr_history.specs.Protection.{started, closing, opened_last, writable}
use Rattle.dr_history.specs.Rules.{deposits_entry}
use Rattle.dr_history.specs.Legality.{IsLegalSoFar, broken}
use Rattle.dr_history_law.specs.Outstanding.{is_outstanding, outstanding}
use Rattle.dr_history_law.specs.Switch.{Settled}
use Rattle.dr_history_law.proofs.Kept.{Switches, resets_facts, opened_ends}
use Rattle.dr_history_law.proofs.Switch.{settles_at_stop}
use Rattle.dr_history_law.proofs.Entered.{has_page, page_named}
use Rattle.dr_history_law.proofs.Outstanding.{unreset, pushed_opened, deposited_pushed, last_outstanding}
use Rattle.dr_event_law.proofs.Outside.{at_switch}

both_ways : (b : Bool) → b ≡ true → b ≡ false → ⊥
both_ways b t f = true≢false (sym t ∙ f)

not_true : (b : Bool) → (b ≡ true → ⊥) → b ≡ false
not_true true f = absurd (f refl)
not_true false f = refl

pub none_any : (f : ℕ → Bool) (n : ℕ) → ((k : ℕ) → k < n → f k ≡ false) → list_any f (below n) ≡ false
none_any f zero h = refl
none_any f (suc n) h =
    list_any-append f (below n) (n ∷ []) ∙ ap (λ b. b || (f n || false)) (none_any f n (λ k lt. h k (omega arith))) ∙ ap (λ b. b || false) (h n (omega arith))

-- each page is settled at the switch-over
settled : (guest : Guest) (earlier : List Event) (page : ℕ) → page < page_count guest → IsLegalSoFar guest earlier → broken guest earlier Switched ≡ None → Switches guest earlier → Settled page earlier
settled guest earlier page hp legal kept facts =
    settles_at_stop guest earlier legal page hp (rw (facts.stopped, facts.answered) refl) (opened_ends guest earlier Switched kept facts.stopped)

-- a page that is closing shows that the guest has not switched
pub closing_here : (guest : Guest) (past : List Event) → IsLegalSoFar guest past → list_any (λ page. closing page past) (below (page_count guest)) ≡ true → list_any is_switched past ≡ false
closing_here guest past legal h =
    not_true (list_any is_switched past) (λ s.
    both_ways (list_any (λ page. closing page past) (below (page_count guest))) h
    (at_switch guest past (λ (xs : List Event). list_any (λ page. closing page xs) (below (page_count guest)) ≡ false) legal s
    (λ earlier before kept facts. none_any (λ page. closing page earlier) (page_count guest) (λ page lt. (settled guest earlier page lt before kept facts).closed))))

counted_case : (test : Bool) (n : ℕ) → 1 ≤ n → 1 ≤ cond test (n + 1) n
counted_case true n h = omega arith
counted_case false n h = h

own_case : (mine test : Bool) (q page n : ℕ) (rest : Option ℕ) → (mine ≡ true → q ≡ page → test ≡ true) → (rest ≡ Some page → 1 ≤ n) → or_else (cond mine (Some q) None) rest ≡ Some page → 1 ≤ cond test (n + 1) n
own_case true true q page n rest f g h = omega arith
own_case true false q page n rest f g h = let e : q ≡ page = cc in absurd (false≢true (f refl e))
own_case false test q page n rest f g h = counted_case test n (g h)

-- an opened entry without its Reset is outstanding
held_page : (v k page : ℕ) (past xs : List Event) → list_any (resets_entry v k) past ≡ false → page_of_entry v k xs ≡ Some page → 1 ≤ count (is_outstanding page past) xs
unfolding page_of_entry
held_page v k page past [] un h = cc
held_page v k page past (Opened w j q ∷ xs) un h =
    own_case (w == v && j == k) (q == page && not (list_any (resets_entry w j) past)) q page (count (is_outstanding page past) xs) (page_of_entry v k xs)
    (λ m e.
    let parts = and_parts (w == v) (j == k) m in
    rw (eq-eqb q page e, ap (λ (u : ℕ). list_any (resets_entry u j) past) (eqb-true w v parts.0), ap (λ (i : ℕ). list_any (resets_entry v i) past) (eqb-true j k parts.1), un) refl)
    (held_page v k page past xs un) h
held_page v k page past (e ∷ xs) un h = counted_case (is_outstanding page past e) (count (is_outstanding page past) xs) (held_page v k page past xs un h)

closed_case : (a b : Bool) → (a || b) ≡ false → b ≡ false
closed_case true b h = absurd (true≢false h)
closed_case false b h = h

entry_done : (guest : Guest) (earlier : List Event) (v k : ℕ) (place : Option ℕ) → place ≡ page_of_entry v k earlier → is_some place ≡ true → IfSome place (λ page. page < page_count guest) → list_any (resets_entry v k) earlier ≡ false → IsLegalSoFar guest earlier → broken guest earlier Switched ≡ None → Switches guest earlier → ⊥
entry_done guest earlier v k None e s hp un legal kept facts = false≢true s
entry_done guest earlier v k (Some page) e s hp un legal kept facts =
    let calm : writable page earlier ≡ false = (settled guest earlier page hp legal kept facts).protected in
    let low : opened_last page earlier ≡ false = closed_case (not (started earlier)) (opened_last page earlier) calm in
    let none : outstanding page earlier ≡ 0 = last_outstanding guest earlier page legal ∙ ap (λ b. cond b 1 0) low in
    let some : 1 ≤ outstanding page earlier = held_page v k page earlier earlier un (sym e) in
    omega (arith, none, some)

-- all that was opened is reset at the switch-over
pub reset_here : (guest : Guest) (past : List Event) (v : ℕ) → IsLegalSoFar guest past → resets v past < opens v past → list_any is_switched past ≡ false
reset_here guest past v legal lt =
    not_true (list_any is_switched past) (λ s.
    let no : resets v past < opens v past → ⊥ =
    at_switch guest past (λ (xs : List Event). resets v xs < opens v xs → ⊥) legal s
    (λ earlier before kept facts open_one.
    entry_done guest earlier v (resets v earlier) (page_of_entry v (resets v earlier) earlier) refl (has_page guest earlier v (resets v earlier) before open_one) (page_named guest earlier v (resets v earlier) before)
    (unreset guest earlier v (resets v earlier) before (omega arith)) before kept facts)
    in no lt)

-- a deposited entry that is next to be reset
pub deposit_here : (guest : Guest) (past : List Event) (v : ℕ) → IsLegalSoFar guest past → list_any (deposits_entry v (resets v past)) past ≡ true → list_any is_switched past ≡ false
deposit_here guest past v legal h =
    let a : resets v past < pushes v past = deposited_pushed guest past v (resets v past) legal h in
    reset_here guest past v legal (omega (arith, a, pushed_opened guest past v legal))

or_right : (a b : Bool) → b ≡ true → (a || b) ≡ true
or_right true b h = refl
or_right false b h = h

deposited_case : (same : Bool) (k n : ℕ) (has : Bool) → (same ≡ true → k ≡ n → has ≡ true) → (k < n → has ≡ true) → k < cond same (n + 1) n → has ≡ true
deposited_case true k n has f g lt =
    elim (cases_lt k n) [
      | inl l ↦ g l
      | inr h ↦ f refl (omega (arith, lt, h))
    ]
deposited_case false k n has f g lt = g lt

-- what is reset was deposited
pub reset_deposited : (guest : Guest) (past : List Event) (v k : ℕ) → IsLegalSoFar guest past → k < resets v past → list_any (deposits_entry v k) past ≡ true
reset_deposited guest [] v k legal lt = absurd (omega arith)
reset_deposited guest (Deposited w from to ∷ past) v k legal lt = or_right ((w == v && nat_le from k) && nat_lt k to) (list_any (deposits_entry v k) past) (reset_deposited guest past v k legal.1 lt)
reset_deposited guest (Reset w j ∷ past) v k legal lt =
    let facts = resets_facts guest past w j legal.0 in
    deposited_case (w == v) k (resets v past) (list_any (deposits_entry v k) past)
    (λ s e.
    let is_w : w ≡ v = eqb-true w v s in
    let is_j : j ≡ k = facts.number ∙ ap (λ (u : ℕ). resets u past) is_w ∙ sym e in
    subst (λ (u : ℕ). list_any (deposits_entry u k) past ≡ true) is_w (subst (λ (i : ℕ). list_any (deposits_entry w i) past ≡ true) is_j facts.deposited))
    (reset_deposited guest past v k legal.1) lt
reset_deposited guest (e ∷ past) v k legal lt = reset_deposited guest past v k legal.1 lt

-- who deposits an entry for the first time shows that the guest has not switched
pub first_here : (guest : Guest) (past : List Event) (v k : ℕ) → IsLegalSoFar guest past → k < pushes v past → list_any (deposits_entry v k) past ≡ false → list_any is_switched past ≡ false
first_here guest past v k legal lt fresh =
    elim (cases_lt k (resets v past)) [
      | inl l ↦ absurd (both_ways (list_any (deposits_entry v k) past) (reset_deposited guest past v k legal l) fresh)
      | inr h ↦ reset_here guest past v legal (omega (arith, lt, h, pushed_opened guest past v legal))
    ]
