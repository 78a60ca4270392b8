-- Where a vCPU's first entries are deposited and no others, their number is one alone.
use Rattle.std.proofs.Common.{◌≡◌, ℕ, ◌<◌, ◌≤◌, true, false, List, slice_get, Some, ap, sym, ◌∙◌}
use Rattle.std.proofs.Common.{arith, inl, inr}
use Rattle.std.specs.Prelude.{◌==◌, nat_lt}
use Rattle.std.specs.List.{list_any}
use Rattle.std.proofs.lemmas.Bool.{cases_lt, lt-ltb, le-ltb, ltb-true, ltb-false, eq-eqb, both_ways}
use Rattle.std.proofs.lemmas.Option.{same_Some}
use Rattle.dr_history.specs.declared.event.Event.{Event}
use Rattle.dr_history.specs.Rules.{deposits_entry}
use Rattle.dr_ring_set.specs.Seated.{HasAt}
use Rattle.dr_collector.specs.Collected.{Collected}
use Rattle.dr_schedule_law.specs.Reaps.{AreFirstDeposited}
use Rattle.dr_turns_law.specs.Deposits.{HasGap}

reaches : (n m : ℕ) → ((k : ℕ) → nat_lt k n ≡ nat_lt k m) → m ≤ n
reaches n m same =
    elim (cases_lt n m) [
      | inl lt ↦ absurd (both_ways (nat_lt n m) (sym (same n) ∙ le-ltb n n (omega arith)) (lt-ltb n m lt))
      | inr ge ↦ ge
    ]

one_number : (n m : ℕ) → ((k : ℕ) → nat_lt k n ≡ nat_lt k m) → n ≡ m
one_number n m same =
    let up : m ≤ n = reaches n m same in
    let down : n ≤ m = reaches m n (λ k. sym (same k)) in
    omega arith

-- where the first n entries are deposited and no others, and those that were handed out are so too,
-- n of them were handed out
pub first_is_number : (v n h : ℕ) (past : List Event) (collected : List Collected)
    → ((k : ℕ) → list_any (deposits_entry v k) past ≡ nat_lt k n)
    → HasAt collected v (λ c. h ≡ c.handed)
    → HasAt collected v (λ c. AreFirstDeposited v c.handed past) → (n == h) ≡ true
first_is_number v n h past collected is at has =
    let here : at.0 ≡ has.0 = same_Some at.0 has.0 (sym at.1 ∙ has.1) in
    let handed : h ≡ has.0.handed = at.2 ∙ ap (λ (c : Collected). c.handed) here in
    eq-eqb n h (one_number n h (λ k. sym (is k) ∙ has.2.is k ∙ ap (nat_lt k) (sym handed)))

-- where one isn't deposited and a later one is, no first ones alone are
pub gap_has_none : (v : ℕ) (past : List Event) (collected : List Collected) → HasGap v past
    → HasAt collected v (λ c. AreFirstDeposited v c.handed past) → false ≡ true
gap_has_none v past collected it has =
    let order : it.gap < it.later = it.order in
    let below : has.0.handed ≤ it.gap =
    ltb-false it.gap has.0.handed (sym (has.2.is it.gap) ∙ it.missing) in
    let above : it.later < has.0.handed =
    ltb-true it.later has.0.handed (sym (has.2.is it.later) ∙ it.deposited) in
    absurd (omega arith)
