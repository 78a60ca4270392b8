-- Lists of ranges that are the rests of the vCPUs that are reaped.
use Rattle.std.proofs.Common.{◌≡◌, ℕ, suc, ◌+◌, ◌-◌, ◌<◌, ◌≤◌, Bool, true, false, cond, List, [], ◌∷◌, refl, ap, sym, subst, ◌∙◌, arith, inl, inr, length, slice_get}
use Rattle.std.specs.Prelude.{◌==◌, Some, None}
use Rattle.std.proofs.lemmas.Bool.{cases_eq, eq-eqb, eqb-true, ne_eqb}
use Rattle.std.proofs.lemmas.Option.{slice_get_within}
use Rattle.dr_types.specs.declared.guest.Guest.{Guest}
use Rattle.dr_types.specs.Scripts.{vcpu_count}
use Rattle.dr_history.specs.declared.event.Event.{Event}
use Rattle.dr_schedule_law.specs.Settled.{Range, of_vcpu}
use Rattle.dr_schedule_law.specs.Reaps.{AreRests, rest_from}

-- the range at each place is of the vCPU with that number, counted from a first one
some_same : (q r : Range) → Some q ≡ Some r → r ≡ q
some_same q r is = cc

record AreCounted (first : ℕ) (rs : List Range) : Type 0 where
  pub each : (i : ℕ) (r : Range) → slice_get rs i ≡ Some r → r.vcpu ≡ first + i

counted_rest : (first : ℕ) (r : Range) (rs : List Range) → AreCounted first (r ∷ rs)
    → AreCounted (suc first) rs
counted_rest first r rs are = record { each = λ i q at. are.each (suc i) q at ∙ omega arith }

counted_first : (first : ℕ) (r : Range) (rs : List Range) → AreCounted first (r ∷ rs) → r.vcpu ≡ first
counted_first first r rs are = are.each 0 r refl ∙ omega arith

none_before : (first v : ℕ) (rs : List Range) → AreCounted first rs → v < first → of_vcpu v rs ≡ []
none_before first v [] are lt = refl
none_before first v (r ∷ rs) are lt =
    rw (ne_eqb r.vcpu v (λ e. let c = counted_first first r rs are in omega (arith, e, c, lt)))
    (none_before (suc first) v rs (counted_rest first r rs are) (omega (arith, lt)))

one_of : (first v : ℕ) (rs : List Range) (r : Range) → AreCounted first rs → first ≤ v
    → slice_get rs (v - first) ≡ Some r → of_vcpu v rs ≡ r ∷ []
one_of first v [] r are le at = cc
one_of first v (q ∷ rs) r are le at =
    elim (cases_eq first v) [
      | inl e ↦
          let zero_on : v - first ≡ 0 = omega (arith, e) in
          let same : q ≡ r = sym
          (some_same q r (subst (λ (i : ℕ). slice_get (q ∷ rs) i ≡ Some r) zero_on at)) in
          rw (eq-eqb q.vcpu v (counted_first first q rs are ∙ e))
          (rw (none_before (suc first) v rs (counted_rest first q rs are) (omega (arith, e)))
          (ap (λ (x : Range). x ∷ []) same))
      | inr d ↦
          rw (ne_eqb q.vcpu v (λ e. d (sym (counted_first first q rs are) ∙ e)))
          (one_of (suc first) v rs r (counted_rest first q rs are) (omega (arith, le, d))
          (subst (λ (i : ℕ). slice_get (q ∷ rs) i ≡ Some r)
          (let next : v - first ≡ suc (v - suc first) = omega (arith, le, d) in next) at))
    ]

counted_here : (i : ℕ) (r q : Range) → Some q ≡ Some r → q.vcpu ≡ i → r.vcpu ≡ 0 + i
counted_here i r q is at =
    let same : r.vcpu ≡ q.vcpu = ap (λ (x : Range). x.vcpu) (some_same q r is) in omega (arith, same, at)

-- one range of each vCPU, in their order, is what all rest where all are reaped
pub rests_of_all : (guest : Guest) (starts : ℕ → ℕ) (rs : List Range) (past : List Event)
    → length rs ≡ vcpu_count guest
    → ((v : ℕ) → v < vcpu_count guest → slice_get rs v ≡ Some (rest_from v (starts v) past))
    → AreRests guest None starts rs past
rests_of_all guest starts rs past all at =
    let counted : AreCounted 0 rs =
    record {
      each = λ i r is. let here : Some (rest_from i (starts i) past) ≡ Some r =
          sym (at i (let lt : i < length rs = slice_get_within rs i r is in omega (arith, lt, all)))
          ∙ is in counted_here i r (rest_from i (starts i) past) here refl;
    } in
    record {
      each = λ v lt. one_of 0 v rs (rest_from v (starts v) past) counted (omega arith)
          (subst (λ (i : ℕ). slice_get rs i ≡ Some (rest_from v (starts v) past))
          (let same : v ≡ v - 0 = omega arith in same) (at v lt));
    }

same_case : (b : Bool) (v u : ℕ) (starts : ℕ → ℕ) (past : List Event) → (b ≡ true → v ≡ u)
    → cond b (rest_from v (starts v) past ∷ []) [] ≡ cond b (rest_from u (starts u) past ∷ []) []
same_case true v u starts past e = ap (λ (w : ℕ). rest_from w (starts w) past ∷ []) (e refl)
same_case false v u starts past e = refl

-- the rest of one vCPU alone is what rests where that one is reaped
pub rests_of_one : (guest : Guest) (v : ℕ) (starts : ℕ → ℕ) (past : List Event)
    → AreRests guest (Some v) starts (rest_from v (starts v) past ∷ []) past
rests_of_one guest v starts past = record { each = λ u lt. same_case (v == u) v u starts past (eqb-true v u) }
