-- No more entries are deposited than pushed, each once.
use Rattle.std.proofs.Common.{◌≡◌, ℕ, ◌+◌, ◌*◌, ◌<◌, ◌≤◌, Bool, true, false, cond, List, [], ◌∷◌, None, refl, ap, sym, ◌∙◌, subst, arith}
use Rattle.std.specs.Prelude.{◌==◌, ◌||◌, ◌&&◌, nat_le}
use Rattle.std.specs.List.{list_any}
use Rattle.std.proofs.lemmas.Bool.{and_parts, and_from, eqb-true, le-leb, lt-ltb, ltb-true, not-true}
use Rattle.dr_types.specs.declared.guest.Guest.{Guest}
use Rattle.dr_history.specs.declared.event.Event.{Event}
use Rattle.dr_history.specs.declared.event.Event.TheVariants.{Pushed, Deposited}
use Rattle.dr_history.specs.Entries.{pushes}
use Rattle.dr_history.specs.Rules.{deposits_entry, deposits_some, deposits_pushed}
use Rattle.dr_history.specs.Legality.{IsLegalSoFar, broken}
use Rattle.dr_history_law.proofs.Kept.{keeps, deposits_facts}
use Rattle.dr_history_law.proofs.Entered.{some_deposited}
use Rattle.dr_history_law.proofs.Listing.{none_below}
use Rattle.dr_schedule_law.specs.Counts.{flag, deposits}
use Rattle.dr_schedule_law.proofs.Sums.{flag_few, sum_below, sum_grows, sum_rises, sum_linear}

-- 1 where the entry is deposited, and else 0
abbrev is_there : ℕ → List Event → ℕ → ℕ
is_there v past k = flag (list_any (deposits_entry v k) past)

-- how many of the first n entries are deposited
abbrev deposited_below : ℕ → ℕ → List Event → ℕ
deposited_below n v past = sum_below n (is_there v past)

-- what holds where entries are deposited
record Deposits (past : List Event) (v from to : ℕ) : Type 0 where
  some : from < to
  pushed : to ≤ pushes v past
  fresh : list_any (deposits_entry v from) past ≡ false

deposits_fresh : (guest : Guest) (past : List Event) (v from to : ℕ) → IsLegalSoFar guest past
    → broken guest past (Deposited v from to) ≡ None → Deposits past v from to
unfolding deposits_pushed
deposits_fresh guest past v from to legal h =
    let rule = and_parts _ _ (keeps guest past (Deposited v from to) h).deposits_pushed_holds in
    let some : from < to = ltb-true from to (and_parts _ _ rule.0).0 in
    let none : list_any (deposits_some v from to) past ≡ false = not-true _ rule.1 in
    let fails : (nat_le from from && list_any (deposits_entry v from) past) ≡ false =
    none_below (λ k. nat_le from k && list_any (deposits_entry v k) past) to from
    (sym (some_deposited guest past v from to some legal) ∙ none) some in
    record {
      some = some;
      pushed = deposits_facts guest past v from to h;
      fresh = ap (λ b. b && list_any (deposits_entry v from) past)
          (sym (le-leb from from (omega arith))) ∙ fails;
    }

push_case : (same : Bool) (p n : ℕ) → cond same (p + 1) p ≤ n → p ≤ n
push_case true p n h = omega arith
push_case false p n h = h

stays_case : (new had : Bool) → flag had ≤ flag (new || had)
stays_case true true = omega arith
stays_case true false = omega arith
stays_case false had = omega arith

rises_case : (here new had : Bool) → (here ≡ true → new ≡ true) → (here ≡ true → had ≡ false)
    → flag had + 1 * flag here ≤ flag (new || had)
rises_case true new had f g = rw (f refl, g refl) (omega arith)
rises_case false new had f g = omega (arith, stays_case new had)

deposit_case : (same : Bool) (d a b : ℕ) → d ≤ a → a ≤ b → (same ≡ true → a + 1 ≤ b)
    → cond same (d + 1) d ≤ b
deposit_case true d a b h le f = omega (arith, f refl)
deposit_case false d a b h le f = omega arith

-- the first entry is there for the first time
deposit_rises : (past : List Event) (w v from to n : ℕ) → (w == v) ≡ true → Deposits past v from to
    → pushes v past ≤ n
    → deposited_below n v past + 1 ≤ deposited_below n v (Deposited w from to ∷ past)
deposit_rises past w v from to n same own le =
    let some : from < to = own.some in
    let pushed : to ≤ pushes v past = own.pushed in
    sum_rises n from 1 (is_there v past) (is_there v (Deposited w from to ∷ past))
    (omega (arith, some, pushed, le))
    (λ k.
    rises_case (from == k) (deposits_entry v k (Deposited w from to)) (list_any (deposits_entry v k) past)
    (λ e.
    let here : from ≡ k = eqb-true from k e in
    and_from _ _ (and_from _ _ same (le-leb from k (omega (arith, here))))
    (lt-ltb k to (omega (arith, here, some))))
    (λ e. subst (λ (i : ℕ). list_any (deposits_entry v i) past ≡ false) (eqb-true from k e) own.fresh))

-- each Deposited has an entry that no other has
deposits_counted : (guest : Guest) (past : List Event) (v n : ℕ) → IsLegalSoFar guest past
    → pushes v past ≤ n → deposits v past ≤ deposited_below n v past
deposits_counted guest [] v n legal le = omega arith
deposits_counted guest (Pushed w k ∷ past) v n legal le =
    deposits_counted guest past v n legal.1 (push_case (w == v) (pushes v past) n le)
deposits_counted guest (Deposited w from to ∷ past) v n legal le =
    deposit_case (w == v) (deposits v past) (deposited_below n v past)
    (deposited_below n v (Deposited w from to ∷ past))
    (deposits_counted guest past v n legal.1 le)
    (sum_grows n (is_there v past) (is_there v (Deposited w from to ∷ past))
    (λ k. stays_case (deposits_entry v k (Deposited w from to)) (list_any (deposits_entry v k) past)))
    (λ s.
    deposit_rises past w v from to n s
    (subst (λ (u : ℕ). Deposits past u from to) (eqb-true w v s)
    (deposits_fresh guest past w from to legal.1 legal.0))
    le)
deposits_counted guest (e ∷ past) v n legal le = deposits_counted guest past v n legal.1 le

-- no more are deposited than pushed
pub deposits_few : (guest : Guest) (past : List Event) (v : ℕ) → IsLegalSoFar guest past
    → deposits v past ≤ pushes v past
deposits_few guest past v legal =
    omega (
      arith,
      deposits_counted guest past v (pushes v past) legal (omega arith),
      sum_linear (pushes v past) 0 1 (is_there v past) (λ k. 0)
          (λ k. flag_few (list_any (deposits_entry v k) past)),
    )
