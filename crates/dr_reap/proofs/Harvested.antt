-- What is harvested is what rests: where its deposits are legal, each range ends at the number of pushes.
use Rattle.std.proofs.Common.{◌≡◌, ℕ, zero, suc, ◌+◌, ◌-◌, ◌<◌, ◌≤◌, Bool, true, false, cond, List, [], ◌∷◌, refl, ap, sym, subst, ◌∙◌, arith, inl, inr}
use Rattle.std.specs.Prelude.{Option, Some, None}
use Rattle.std.proofs.lemmas.Bool.{cases_lt, ne_eqb, true≢false}
use Rattle.dr_types.specs.declared.guest.Guest.{Guest}
use Rattle.dr_types.specs.Scripts.{vcpu_count}
use Rattle.dr_history.specs.declared.event.Event.{Event}
use Rattle.dr_history.specs.declared.event.Event.TheVariants.{Deposited}
use Rattle.dr_history.specs.Entries.{pushes}
use Rattle.dr_history.specs.Legality.{IsLegalSoFar}
use Rattle.dr_history_law.proofs.Kept.{deposits_facts}
use Rattle.dr_turns_law.specs.Deposits.{first_twice}
use Rattle.dr_schedule_law.specs.Settled.{Range, range_of, of_vcpu, in_order, deposited_one, deposited_all, flushed, Settles, SettlesPart, DepositsPart}
use Rattle.dr_schedule_law.specs.Reaps.{is_reaped, AreFirstDeposited, AreDepositedUpTo, AreRests, Extends, first_undeposited, deposited_from, rest_deposited, rests_deposited, all_reset_below, reaped}
use Rattle.dr_schedule_law.proofs.Rests.{deposited_few, fresh_from, rest_is_range}
use Rattle.dr_schedule_law.proofs.Depositing.{deposited_pushes, later_stay, deposited_append}
use Rattle.dr_schedule_law.proofs.Extending.{extends_still, extends_more, extends_then, deposits_extend, below_extends, flush_extends}
use Rattle.dr_schedule_law.proofs.Settling.{settles_reaps, settling_cut}
use Rattle.dr_schedule_law.proofs.Reaped.{reap_moves_deposits}
use Rattle.dr_reap.specs.Harvests.{AreHarvested}
use Rattle.dr_reap.proofs.Earlier.{legal_before, settled_grows, resets_part_grows, flush_waits_grows, cut_between, AreBelow}

some_deposited : (v s e : ℕ) (past : List Event) → s < e → first_twice v s past (s + (e - s)) ≡ None
    → deposited_one (range_of v s (e - s)) past ≡ Deposited v s (s + (e - s)) ∷ past
some_deposited v s e past lt none = rw (ne_eqb (e - s) 0 (λ z. omega (arith, z, lt)), none) refl

-- a range of a vCPU that begins at its number and reaches its last push ends there, where its deposit is legal
one_exact : (guest : Guest) (v s e : ℕ) (past : List Event) → AreFirstDeposited v s past → s ≤ e
    → pushes v past ≤ e → IsLegalSoFar guest past
    → IsLegalSoFar guest (deposited_one (range_of v s (e - s)) past) → e ≡ pushes v past
one_exact guest v s e past first le whole before legal =
    elim (cases_lt s e) [
      | inl lt ↦
          let now : IsLegalSoFar guest (Deposited v s (s + (e - s)) ∷ past) =
          subst (λ (xs : List Event). IsLegalSoFar guest xs)
          (some_deposited v s e past lt (fresh_from v s (s + (e - s)) past first)) legal in
          let few : s + (e - s) ≤ pushes v past = deposits_facts guest past v s (s + (e - s)) now.0 in
          omega (arith, few, whole, lt)
      | inr ge ↦ let few : s ≤ pushes v past = deposited_few guest past v s before first in omega
          (arith, few, whole, ge, le)
    ]

-- the same of a vCPU that may be reaped
record IsExact (reaps : Bool) (v e : ℕ) (here : List Range) (past : List Event) : Type 0 where
  pub rests : cond reaps (rest_deposited v past) past ≡ deposited_all here past
  pub ends : reaps ≡ true → e ≡ pushes v past

exact_case : (reaps : Bool) (guest : Guest) (v s e : ℕ) (here : List Range) (past : List Event)
    → AreFirstDeposited v s past → s ≤ e → (reaps ≡ true → pushes v past ≤ e)
    → here ≡ cond reaps (range_of v s (e - s) ∷ []) [] → IsLegalSoFar guest past
    → IsLegalSoFar guest (deposited_all here past) → IsExact reaps v e here past
exact_case true guest v s e here past first le whole is before legal =
    let ends : e ≡ pushes v past = one_exact guest v s e past first le (whole refl) before
    (subst (λ (rs : List Range). IsLegalSoFar guest (deposited_all rs past)) is legal) in
    record {
      rests = rest_is_range v s past first (omega (arith, ends, le))
          ∙ ap (λ (p : ℕ). deposited_one (range_of v s (p - s)) past) (sym ends)
          ∙ ap (λ (rs : List Range). deposited_all rs past) (sym is);
      ends = λ h. ends;
    }
exact_case false guest v s e here past first le whole is before legal = record {
  rests = ap (λ (rs : List Range). deposited_all rs past) (sym is);
  ends = λ h. absurd (true≢false (sym h));
}

-- the first vCPUs' ranges are their rests
pub record AreExact (whose : Option ℕ) (after : ℕ → ℕ) (rs : List Range) (n : ℕ)
    (past : List Event) : Type 0 where
  pub rests : rests_deposited whose n past ≡ deposited_all (in_order n rs) past
  pub ends : (v : ℕ) → v < n → is_reaped whose v ≡ true → after v ≡ pushes v past

exact_more : (whose : Option ℕ) (after : ℕ → ℕ) (rs : List Range) (n : ℕ) (past : List Event)
    → AreExact whose after rs n past
    → IsExact (is_reaped whose n) n (after n) (of_vcpu n rs) (deposited_all (in_order n rs) past)
    → AreExact whose after rs (suc n) past
exact_more whose after rs n past old one =
    let same : pushes n (deposited_all (in_order n rs) past) ≡ pushes n past = ap (pushes n)
    (sym old.rests) ∙ deposited_pushes whose n n past in
    record {
      rests = ap (λ (xs : List Event). cond (is_reaped whose n) (rest_deposited n xs) xs) old.rests
          ∙ one.rests ∙ sym (deposited_append (in_order n rs) (of_vcpu n rs) past);
      ends = λ v lt is.
          elim (cases_lt v n) [
            | inl l ↦ old.ends v l is
            | inr g ↦
                let e : n ≡ v = omega (arith, lt, g) in
                subst (λ (u : ℕ). is_reaped whose u ≡ true → after u ≡ pushes u past) e
                (λ h. one.ends h ∙ same) is
          ];
    }

-- where the deposits are legal
pub exact_below : (guest : Guest) (whose : Option ℕ) (before after : ℕ → ℕ) (rs : List Range)
    (past : List Event) (n : ℕ) → n ≤ vcpu_count guest → IsLegalSoFar guest past
    → AreDepositedUpTo guest before past → AreHarvested guest whose before after rs past
    → IsLegalSoFar guest (deposited_all (in_order n rs) past) → AreExact whose after rs n past
exact_below guest whose before after rs past zero le first step it legal = record
    { rests = refl; ends = λ v lt is. absurd (omega (arith, lt)) }
exact_below guest whose before after rs past (suc n) le first step it legal =
    let lt : n < vcpu_count guest = omega (arith, le) in
    let was : List Event = deposited_all (in_order n rs) past in
    let now : IsLegalSoFar guest (deposited_all (of_vcpu n rs) was) = subst
    (λ (xs : List Event). IsLegalSoFar guest xs)
    (deposited_append (in_order n rs) (of_vcpu n rs) past) legal in
    let mid : IsLegalSoFar guest was = legal_before guest was (deposited_all (of_vcpu n rs) was)
    (deposits_extend (of_vcpu n rs) was) now in
    let old = exact_below guest whose before after rs past n (omega (arith, le)) first step it mid in
    let own : AreFirstDeposited n (before n) was = subst (AreFirstDeposited n (before n)) old.rests
    (later_stay whose n n (before n) past (omega arith) (step.each n lt)) in
    let same : pushes n was ≡ pushes n past = ap (pushes n) (sym old.rests)
    ∙ deposited_pushes whose n n past in
    exact_more whose after rs n past old
    (exact_case (is_reaped whose n) guest n (before n) (after n) (of_vcpu n rs) was own (it.onward n lt)
    (λ h. let w = it.whole n lt h in omega (arith, same, w)) (it.each n lt) mid now)

rest_case : (reaps : Bool) (v s e p : ℕ) → (reaps ≡ true → e ≡ p)
    → cond reaps (range_of v s (e - s) ∷ []) [] ≡ cond reaps (range_of v s (p - s) ∷ []) []
rest_case true v s e p is = ap (λ (q : ℕ). range_of v s (q - s) ∷ []) (is refl)
rest_case false v s e p is = refl

-- so what is harvested is what rests
pub exact_rests : (guest : Guest) (whose : Option ℕ) (before after : ℕ → ℕ) (rs : List Range)
    (past : List Event) → AreHarvested guest whose before after rs past
    → AreExact whose after rs (vcpu_count guest) past → AreRests guest whose before rs past
exact_rests guest whose before after rs past it exact = record {
  each = λ v lt. it.each v lt
      ∙ rest_case (is_reaped whose v) v (before v) (after v) (pushes v past) (exact.ends v lt);
}

end_case : (reaps : Bool) (e s p : ℕ) → (reaps ≡ true → e ≡ p) → (reaps ≡ false → e ≡ s) → cond reaps p s ≡ e
end_case true e s p ends stays = sym (ends refl)
end_case false e s p ends stays = sym (stays refl)

-- what a settling of it leaves
pub record Reaps (guest : Guest) (whose : Option ℕ) (after : ℕ → ℕ) (old new : List Event) : Type 0 where
  pub past : new ≡ reaped guest whose old
  pub step : AreDepositedUpTo guest after new

-- A settling of what was harvested is a reap, and leaves the collector in step.
pub harvest_reaps : (guest : Guest) (whose : Option ℕ) (before after : ℕ → ℕ) (rs : List Range)
    (old new : List Event) (n : ℕ) → IsLegalSoFar guest old → IsLegalSoFar guest new
    → AreDepositedUpTo guest before old → AreHarvested guest whose before after rs old
    → Settles guest rs old new n → Reaps guest whose after old new
harvest_reaps guest whose before after rs old new n first last step it settled =
    let mid : IsLegalSoFar guest (deposited_all (in_order (vcpu_count guest) rs) old) = legal_before guest
    (deposited_all (in_order (vcpu_count guest) rs) old) new
    (settled_grows guest rs old new n settled) last in
    let exact = exact_below guest whose before after rs old (vcpu_count guest)
    (omega arith) first step it mid in
    let past : new ≡ reaped guest whose old = settles_reaps guest whose before rs old new n first step
    (exact_rests guest whose before after rs old it exact) settled in
    let moved = reap_moves_deposits guest whose before old first step in
    record {
      past = past;
      step = record {
        each = λ v lt.
            subst (λ (xs : List Event). AreFirstDeposited v (after v) xs) (sym past)
            (subst (λ (m : ℕ). AreFirstDeposited v m (reaped guest whose old))
            (end_case (is_reaped whose v) (after v) (before v) (pushes v old) (exact.ends v lt)
            (it.others v lt)) (moved.each v lt));
      };
    }

from_grows : (v : ℕ) (o : Option ℕ) (past : List Event) → Extends past (deposited_from v o past)
from_grows v None past = extends_still past
from_grows v (Some k) past = extends_more past past (Deposited v k (pushes v past)) (extends_still past)

one_grows : (reaps : Bool) (v : ℕ) (past : List Event)
    → Extends past (cond reaps (rest_deposited v past) past)
one_grows true v past = from_grows v (first_undeposited v past) past
one_grows false v past = extends_still past

-- the deposits of more vCPUs extend those of fewer
deposits_grow : (whose : Option ℕ) (n m : ℕ) (past : List Event) → n ≤ m
    → Extends (rests_deposited whose n past) (rests_deposited whose m past)
deposits_grow whose n zero past le = let e : 0 ≡ n = omega (arith, le) in subst
    (λ (k : ℕ). Extends (rests_deposited whose k past) past) e (extends_still past)
deposits_grow whose n (suc m) past le =
    elim (cases_lt m n) [
      | inl l ↦ let e : suc m ≡ n = omega (arith, l, le) in subst
          (λ (k : ℕ). Extends (rests_deposited whose k past) (rests_deposited whose (suc m) past)) e
          (extends_still (rests_deposited whose (suc m) past))
      | inr g ↦
          extends_then (rests_deposited whose n past) (rests_deposited whose m past)
          (rests_deposited whose (suc m) past) (deposits_grow whose n m past g)
          (one_grows (is_reaped whose m) m (rests_deposited whose m past))
    ]

-- one that is cut off in its deposits
cut_deposits : (guest : Guest) (whose : Option ℕ) (before after : ℕ → ℕ) (rs : List Range)
    (old new : List Event) → IsLegalSoFar guest old → IsLegalSoFar guest new → AreDepositedUpTo guest before old
    → AreHarvested guest whose before after rs old → DepositsPart (in_order (vcpu_count guest) rs) old new
    → Extends new (reaped guest whose old)
unfolding reaped
cut_deposits guest whose before after rs old new first last step it part =
    let n : ℕ = vcpu_count guest in
    let cut : AreBelow rs part.deposits.done n = cut_between (is_reaped whose)
    (λ v. range_of v (before v) (after v - before v)) n rs part.deposits.done part.rest part.next
    it.each part.deposits.parts in
    let here : new ≡ deposited_all (in_order cut.vcpu rs) old = part.deposits.past
    ∙ ap (λ (ds : List Range). deposited_all ds old) cut.done_is in
    let exact = exact_below guest whose before after rs old cut.vcpu cut.within first step it
    (subst (λ (xs : List Event). IsLegalSoFar guest xs) here last) in
    let all : List Event = rests_deposited whose n old in
    let some : Extends new all = subst (λ (xs : List Event). Extends xs all) (exact.rests ∙ sym here)
    (deposits_grow whose cut.vcpu n old cut.within) in
    extends_then new all (flushed guest (all_reset_below n all)) some
    (extends_then all (all_reset_below n all) (flushed guest (all_reset_below n all))
    (below_extends 0 n all (omega arith)) (flush_extends guest (all_reset_below n all)))

-- A settling of it that is cut off leaves a part of a reap.
pub harvest_cut : (guest : Guest) (whose : Option ℕ) (before after : ℕ → ℕ) (rs : List Range)
    (old new : List Event) → IsLegalSoFar guest old → IsLegalSoFar guest new → AreDepositedUpTo guest before old
    → AreHarvested guest whose before after rs old → SettlesPart guest rs old new
    → Extends new (reaped guest whose old)
harvest_cut guest whose before after rs old new first last step it part =
    let mid : List Event = deposited_all (in_order (vcpu_count guest) rs) old in
    let whole = λ (grows : Extends mid new).
    settling_cut guest whose before rs old new first step
    (exact_rests guest whose before after rs old it
    (exact_below guest whose before after rs old (vcpu_count guest) (omega arith) first step it
    (legal_before guest mid new grows last))) part in
    elim part [
      | inl d ↦ cut_deposits guest whose before after rs old new first last step it d
      | inr (inl r) ↦ whole (resets_part_grows (vcpu_count guest) mid new r)
      | inr (inr f) ↦ whole (flush_waits_grows guest mid new f)
    ]

-- .. and the events are extended
pub part_grows : (guest : Guest) (rs : List Range) (old new : List Event) → SettlesPart guest rs old new
    → Extends old new
part_grows guest rs old new part =
    let order : List Range = in_order (vcpu_count guest) rs in
    let mid : List Event = deposited_all order old in
    elim part [
      | inl d ↦ subst (Extends old) (sym d.deposits.past) (deposits_extend d.deposits.done old)
      | inr (inl r) ↦ extends_then old mid new (deposits_extend order old)
          (resets_part_grows (vcpu_count guest) mid new r)
      | inr (inr f) ↦ extends_then old mid new (deposits_extend order old)
          (flush_waits_grows guest mid new f)
    ]
