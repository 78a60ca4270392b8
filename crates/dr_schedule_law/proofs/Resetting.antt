-- What the resets of a reap leave: each deposited entry is reset.
use Rattle.std.proofs.Common.{◌≡◌, ℕ, zero, suc, ◌+◌, ◌<◌, ◌≤◌, Bool, true, false, cond, List, ◌∷◌, refl, ap, sym, subst, ◌∙◌, arith, inl, inr}
use Rattle.std.specs.Prelude.{◌==◌}
use Rattle.std.specs.List.{list_any}
use Rattle.std.proofs.lemmas.Bool.{cases_lt, eq-eqb, ne_eqb, false_from_ne_true, true≢false}
use Rattle.dr_history.specs.declared.event.Event.{Event}
use Rattle.dr_history.specs.declared.event.Event.TheVariants.{Reset}
use Rattle.dr_history.specs.Entries.{pushes, resets, used}
use Rattle.dr_history.specs.Rules.{deposits_entry}
use Rattle.dr_turns_law.specs.Deposits.{next_deposited}
use Rattle.dr_schedule_law.specs.Settled.{reset_after, ResetsAll, ResetsBelow}
use Rattle.dr_schedule_law.specs.Reaps.{reset_while, all_reset, all_reset_below}
use Rattle.dr_schedule_law.proofs.Reaping.{by_test, by_all_reset}

-- the vCPU's deposited entries are pushed ones
pub record AreDepositsPushed (v : ℕ) (past : List Event) : Type 0 where
  pub each : (k : ℕ) → list_any (deposits_entry v k) past ≡ true → k < pushes v past

pushed_reset : (v w k : ℕ) (past : List Event) → AreDepositsPushed v past
    → AreDepositsPushed v (Reset w k ∷ past)
pushed_reset v w k past pushed = record { each = pushed.each }

next_pushed : (v : ℕ) (past : List Event) → AreDepositsPushed v past → next_deposited v past ≡ true
    → resets v past < pushes v past
unfolding next_deposited
next_pushed v past pushed due = pushed.each (resets v past) due

pushed_after : (v n : ℕ) (past : List Event) → AreDepositsPushed v past
    → AreDepositsPushed v (reset_after v n past)
pushed_after v zero past pushed = pushed
pushed_after v (suc n) past pushed =
    pushed_reset v v (resets v (reset_after v n past)) (reset_after v n past)
    (pushed_after v n past pushed)

pushes_after : (v n : ℕ) (past : List Event) → pushes v (reset_after v n past) ≡ pushes v past
pushes_after v zero past = refl
pushes_after v (suc n) past = pushes_after v n past

-- a Reset of the vCPU counts
resets_own : (v k : ℕ) (past : List Event) → resets v (Reset v k ∷ past) ≡ resets v past + 1
resets_own v k past = rw (eq-eqb v v refl) refl

resets_after : (v n : ℕ) (past : List Event) → resets v (reset_after v n past) ≡ resets v past + n
resets_after v zero past = omega arith
resets_after v (suc n) past =
    resets_own v (resets v (reset_after v n past)) (reset_after v n past)
    ∙ (let before = resets_after v n past in omega (arith, before))

-- no more entries are reset than are used
pub resets_few : (v n : ℕ) (past : List Event) → AreDepositsPushed v past
    → ((k : ℕ) → k < n → next_deposited v (reset_after v k past) ≡ true) → n ≤ used v past
resets_few v zero past pushed due = omega arith
resets_few v (suc n) past pushed due =
    let lt : resets v (reset_after v n past) < pushes v (reset_after v n past) =
    next_pushed v (reset_after v n past) (pushed_after v n past pushed) (due n (omega arith)) in
    omega (arith, lt, resets_after v n past, pushes_after v n past)

-- the first of some resets stands first
pub reset_first : (v n : ℕ) (past : List Event) → reset_after v (suc n) past ≡ reset_after v n
    (Reset v (resets v past) ∷ past)
reset_first v zero past = refl
reset_first v (suc n) past = ap (λ (xs : List Event). Reset v (resets v xs) ∷ xs) (reset_first v n past)

while_none : (b : Bool) (xs past : List Event) → b ≡ false → cond b xs past ≡ past
while_none true xs past h = absurd (true≢false h)
while_none false xs past h = refl

-- resets until the next entry isn't deposited are all that come while it is
while_all : (v n fuel : ℕ) (past : List Event)
    → ((k : ℕ) → k < n → next_deposited v (reset_after v k past) ≡ true)
    → next_deposited v (reset_after v n past) ≡ false → n ≤ fuel
    → reset_while v fuel past ≡ reset_after v n past
while_all v zero zero past due none le = refl
while_all v zero (suc fuel) past due none le =
    while_none (next_deposited v past) (reset_while v fuel (Reset v (resets v past) ∷ past)) past none
while_all v (suc n) zero past due none le = absurd (omega (arith, le))
while_all v (suc n) (suc fuel) past due none le =
    rw (due 0 (omega arith))
    (while_all v n fuel (Reset v (resets v past) ∷ past)
    (λ k lt. ap (next_deposited v) (sym (reset_first v k past)) ∙ due (suc k) (omega (arith, lt)))
    (ap (next_deposited v) (sym (reset_first v n past)) ∙ none) (omega (arith, le))
    ∙ sym (reset_first v n past))

-- resets until the next entry isn't deposited are all of the vCPU
pub all_is : (v n : ℕ) (past new : List Event) → AreDepositsPushed v past → ResetsAll v past new n
    → all_reset v past ≡ new
all_is v n past new pushed all =
    while_all v n (used v past) past all.resets.due (ap (next_deposited v) (sym all.resets.past) ∙ all.none)
    (resets_few v n past pushed all.resets.due)
    ∙ sym all.resets.past

-- the resets of the first vCPUs leave no deposited entry unpushed
pub pushed_below : (v n : ℕ) (past : List Event) → AreDepositsPushed v past
    → AreDepositsPushed v (all_reset_below n past)
pushed_below v n past pushed =
    by_all_reset (AreDepositsPushed v) n past pushed (λ w k xs. pushed_reset v w k xs)

-- and so are those of the first vCPUs
pub below_is : (n total : ℕ) (past new : List Event) → ((v : ℕ) → v < n → AreDepositsPushed v past)
    → ResetsBelow n past new total → all_reset_below n past ≡ new
below_is zero total past new pushed below = sym below.0
below_is (suc v) total past new pushed below =
    let before : all_reset_below v past ≡ below.0 = below_is v below.1 past below.0
    (λ u lt. pushed u (omega (arith, lt))) below.3 in
    ap (all_reset v) before
    ∙ all_is v below.2 below.0 new
    (subst (AreDepositsPushed v) before (pushed_below v v past (pushed v (omega arith)))) below.4

none_case : (b : Bool) (v : ℕ) (xs past : List Event) → next_deposited v past ≡ b
    → (b ≡ true → next_deposited v xs ≡ false) → next_deposited v (cond b xs past) ≡ false
none_case true v xs past is f = f refl
none_case false v xs past is f = is

-- the resets of a vCPU end where its next entry isn't deposited
pub while_ends : (v fuel : ℕ) (past : List Event) → AreDepositsPushed v past → used v past ≤ fuel
    → next_deposited v (reset_while v fuel past) ≡ false
while_ends v zero past pushed few =
    false_from_ne_true (next_deposited v past)
    (λ due. let lt : resets v past < pushes v past = next_pushed v past pushed due in
    omega (arith, lt, few))
while_ends v (suc fuel) past pushed few =
    none_case (next_deposited v past) v (reset_while v fuel (Reset v (resets v past) ∷ past)) past refl
    (λ due.
    while_ends v fuel (Reset v (resets v past) ∷ past) (pushed_reset v v (resets v past) past pushed)
    (let own : resets v (Reset v (resets v past) ∷ past) ≡ resets v past + 1 =
    resets_own v (resets v past) past in omega (arith, own, few)))

other_reset : (v w k : ℕ) (past : List Event) → (w == v) ≡ false
    → next_deposited v (Reset w k ∷ past) ≡ next_deposited v past
unfolding next_deposited
other_reset v w k past not =
    ap (λ (j : ℕ). list_any (deposits_entry v j) past)
    (ap (λ b. cond b (resets v past + 1) (resets v past)) not)

-- and those of another leave what its next entry is
pub while_others : (v w fuel : ℕ) (past : List Event) → (w == v) ≡ false
    → next_deposited v (reset_while w fuel past) ≡ next_deposited v past
while_others v w zero past not = refl
while_others v w (suc fuel) past not =
    by_test (λ (xs : List Event). next_deposited v xs ≡ next_deposited v past) (next_deposited w past)
    (reset_while w fuel (Reset w (resets w past) ∷ past)) past
    (while_others v w fuel (Reset w (resets w past) ∷ past) not ∙ other_reset v w (resets w past) past not)
    refl

-- after the resets of the first vCPUs the next entry of each isn't deposited
pub all_none : (n v : ℕ) (past : List Event) → ((u : ℕ) → u < n → AreDepositsPushed u past) → v < n
    → next_deposited v (all_reset_below n past) ≡ false
all_none zero v past pushed lt = absurd (omega (arith, lt))
all_none (suc n) v past pushed lt =
    elim (cases_lt v n) [
      | inl l ↦
          while_others v n (used n (all_reset_below n past)) (all_reset_below n past)
          (ne_eqb n v (λ e. omega (arith, e, l)))
          ∙ all_none n v past (λ u less. pushed u (omega (arith, less))) l
      | inr g ↦
          let e : n ≡ v = omega (arith, lt, g) in
          subst (λ (w : ℕ). next_deposited w (all_reset n (all_reset_below n past)) ≡ false) e
          (while_ends n (used n (all_reset_below n past)) (all_reset_below n past)
          (pushed_below n n past (pushed n (omega arith))) (omega arith))
    ]
