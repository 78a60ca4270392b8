-- What the deposits of a reap leave: of each vCPU that is reaped, all that it pushed is deposited.
use Rattle.std.proofs.Common.{◌≡◌, ℕ, zero, suc, ◌-◌, ◌<◌, ◌≤◌, Bool, true, false, cond, List, [], ◌∷◌, ◌++◌, refl, ap, sym, subst, ◌∙◌, arith, inl, inr}
use Rattle.std.specs.Prelude.{◌==◌, ◌&&◌, ◌||◌, nat_le, nat_lt, Option, Some, None}
use Rattle.std.specs.List.{list_any}
use Rattle.std.proofs.lemmas.Bool.{cases_lt, lt-ltb, le-ltb, le-leb, eq-eqb, ne_eqb, true≢false, or_right}
use Rattle.std.proofs.Math.Bool.{or-false}
use Rattle.dr_types.specs.declared.guest.Guest.{Guest}
use Rattle.dr_types.specs.Scripts.{vcpu_count}
use Rattle.dr_history.specs.declared.event.Event.{Event}
use Rattle.dr_history.specs.Entries.{pushes}
use Rattle.dr_history.specs.Rules.{deposits_entry}
use Rattle.dr_schedule_law.specs.Settled.{Range, range_of, of_vcpu, in_order, deposited_one, deposited_all}
use Rattle.dr_schedule_law.specs.Reaps.{is_reaped, AreFirstDeposited, AreDepositedUpTo, AreRests, starts_after, first_undeposited, deposited_from, rest_deposited, rests_deposited}
use Rattle.dr_schedule_law.proofs.Reaping.{by_deposited}
use Rattle.dr_schedule_law.proofs.Rests.{next_undeposited, none_undeposited, rest_is_range}

-- the deposits push nothing
pub deposited_pushes : (whose : Option ℕ) (n u : ℕ) (past : List Event)
    → pushes u (rests_deposited whose n past) ≡ pushes u past
deposited_pushes whose n u past =
    by_deposited (λ (xs : List Event). pushes u xs ≡ pushes u past) whose n past refl
    (λ v from to xs same. same)

other_case : (same a b c : Bool) → same ≡ false → (((same && a) && b) || c) ≡ c
other_case true a b c h = absurd (true≢false h)
other_case false a b c h = refl

others_from : (v u k : ℕ) (o : Option ℕ) (past : List Event) → (v == u) ≡ false
    → list_any (deposits_entry u k) (deposited_from v o past) ≡ list_any (deposits_entry u k) past
others_from v u k None past not = refl
others_from v u k (Some n) past not =
    other_case (v == u) (nat_le n k) (nat_lt k (pushes v past)) (list_any (deposits_entry u k) past) not

-- the deposit of one vCPU's rest leaves the other vCPUs' entries
pub rest_others : (v u n : ℕ) (past : List Event) → (v == u) ≡ false → AreFirstDeposited u n past
    → AreFirstDeposited u n (rest_deposited v past)
rest_others v u n past not first =
    record { is = λ k. others_from v u k (first_undeposited v past) past not ∙ first.is k }

joined : (v n p k : ℕ) (b : Bool) → n < p → b ≡ nat_lt k n
    → (((v == v) && nat_le n k) && nat_lt k p) || b ≡ nat_lt k p
joined v n p k b lt is =
    elim (cases_lt k n) [
      | inl l ↦ or_right (((v == v) && nat_le n k) && nat_lt k p) b (is ∙ lt-ltb k n l)
          ∙ sym (lt-ltb k p (omega (arith, l, lt)))
      | inr g ↦ rw (eq-eqb v v refl, le-leb n k g, is, le-ltb k n g) (or-false (nat_lt k p))
    ]

-- after the deposit of a vCPU's rest all that it pushed is deposited
pub rest_own : (v n : ℕ) (past : List Event) → AreFirstDeposited v n past → n ≤ pushes v past
    → AreFirstDeposited v (pushes v past) (rest_deposited v past)
rest_own v n past first le =
    elim (cases_lt n (pushes v past)) [
      | inl lt ↦
          subst (λ (o : Option ℕ). AreFirstDeposited v (pushes v past) (deposited_from v o past))
          (sym (next_undeposited v n past first lt))
          (record {
            is = λ k. joined v n (pushes v past) k (list_any (deposits_entry v k) past) lt
                (first.is k);
          })
      | inr ge ↦
          let is : pushes v past ≡ n = omega (arith, le, ge) in
          subst (λ (o : Option ℕ). AreFirstDeposited v (pushes v past) (deposited_from v o past))
          (sym (none_undeposited v n past first is))
          (subst (λ (m : ℕ). AreFirstDeposited v m past) (sym is) first)
    ]

test_others : (r : Bool) (v u n : ℕ) (past : List Event) → (v == u) ≡ false → AreFirstDeposited u n past
    → AreFirstDeposited u n (cond r (rest_deposited v past) past)
test_others true v u n past not first = rest_others v u n past not first
test_others false v u n past not first = first

test_own : (r : Bool) (v n p : ℕ) (past : List Event) → pushes v past ≡ p → n ≤ p
    → AreFirstDeposited v n past → AreFirstDeposited v (cond r p n) (cond r (rest_deposited v past) past)
test_own true v n p past is le first =
    subst (λ (m : ℕ). AreFirstDeposited v m (rest_deposited v past)) is
    (rest_own v n past first (omega (arith, is, le)))
test_own false v n p past is le first = first

-- the deposits of the first vCPUs leave the entries of the later ones
pub later_stay : (whose : Option ℕ) (n u m : ℕ) (past : List Event) → n ≤ u → AreFirstDeposited u m past
    → AreFirstDeposited u m (rests_deposited whose n past)
later_stay whose zero u m past le first = first
later_stay whose (suc n) u m past le first =
    test_others (is_reaped whose n) n u m (rests_deposited whose n past)
    (ne_eqb n u (λ e. omega (arith, e, le)))
    (later_stay whose n u m past (omega (arith, le)) first)

-- of the first vCPUs that are reaped all that was pushed is deposited
pub first_deposited : (whose : Option ℕ) (starts : ℕ → ℕ) (n u : ℕ) (past : List Event) → u < n
    → starts u ≤ pushes u past → AreFirstDeposited u (starts u) past
    → AreFirstDeposited u (starts_after whose starts past u) (rests_deposited whose n past)
first_deposited whose starts zero u past lt few first = absurd (omega (arith, lt))
first_deposited whose starts (suc n) u past lt few first =
    elim (cases_lt u n) [
      | inl l ↦
          test_others (is_reaped whose n) n u (starts_after whose starts past u)
          (rests_deposited whose n past) (ne_eqb n u (λ e. omega (arith, e, l)))
          (first_deposited whose starts n u past l few first)
      | inr g ↦
          let e : u ≡ n = omega (arith, lt, g) in
          subst (λ (w : ℕ). AreFirstDeposited u (starts_after whose starts past u)
          (cond (is_reaped whose w) (rest_deposited w (rests_deposited whose n past))
          (rests_deposited whose n past))) e
          (test_own (is_reaped whose u) u (starts u) (pushes u past) (rests_deposited whose n past)
          (deposited_pushes whose n u past) few
          (later_stay whose n u (starts u) past g first))
    ]

-- deposits of two lists, one after the other
pub deposited_append : (xs ys : List Range) (past : List Event)
    → deposited_all (xs ++ ys) past ≡ deposited_all ys (deposited_all xs past)
deposited_append [] ys past = refl
deposited_append (x ∷ xs) ys past = deposited_append xs ys (deposited_one x past)

one_rest : (r : Bool) (v n p : ℕ) (here : List Range) (past : List Event) → pushes v past ≡ p → n ≤ p
    → AreFirstDeposited v n past → here ≡ cond r (range_of v n (p - n) ∷ []) []
    → cond r (rest_deposited v past) past ≡ deposited_all here past
one_rest true v n p here past is le first list =
    rest_is_range v n past first (omega (arith, is, le))
    ∙ ap (λ (q : ℕ). deposited_one (range_of v n (q - n)) past) is
    ∙ ap (λ (rs : List Range). deposited_all rs past) (sym list)
one_rest false v n p here past is le first list = ap (λ (rs : List Range). deposited_all rs past) (sym list)

-- The ranges of the first vCPUs are deposited as their rests.
pub rests_are_ranges : (guest : Guest) (whose : Option ℕ) (starts : ℕ → ℕ) (rs : List Range) (n : ℕ)
    (past : List Event) → n ≤ vcpu_count guest → AreRests guest whose starts rs past
    → AreDepositedUpTo guest starts past → ((v : ℕ) → v < vcpu_count guest → starts v ≤ pushes v past)
    → rests_deposited whose n past ≡ deposited_all (in_order n rs) past
rests_are_ranges guest whose starts rs zero past le rests step few = refl
rests_are_ranges guest whose starts rs (suc n) past le rests step few =
    let lt : n < vcpu_count guest = omega (arith, le) in
    one_rest (is_reaped whose n) n (starts n) (pushes n past) (of_vcpu n rs) (rests_deposited whose n past)
    (deposited_pushes whose n n past) (few n lt)
    (later_stay whose n n (starts n) past (omega arith) (step.each n lt)) (rests.each n lt)
    ∙ ap (deposited_all (of_vcpu n rs))
    (rests_are_ranges guest whose starts rs n past (omega (arith, le)) rests step few)
    ∙ sym (deposited_append (in_order n rs) (of_vcpu n rs) past)
