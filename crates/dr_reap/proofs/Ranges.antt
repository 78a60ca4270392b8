-- Lists of batches by vCPU, and what their deposits leave.
use Rattle.std.proofs.Common.{◌≡◌, ℕ, zero, suc, ◌+◌, ◌<◌, ◌≤◌, Bool, true, false, cond, List, [], ◌∷◌, ◌++◌, map, take, length, refl, ap, sym, subst, ◌∙◌, append_assoc, arith, add-one, inl, inr}
use Rattle.std.specs.Prelude.{◌==◌, slice_index_or}
use Rattle.std.specs.List.{remove}
use Rattle.std.proofs.lemmas.List.{append-nil}
use Rattle.std.proofs.lemmas.Bool.{ne_eqb, true≢false, cases_lt}
use Rattle.dr_history.specs.declared.event.Event.{Event}
use Rattle.dr_schedule_law.specs.Settled.{Range, of_vcpu, in_order, deposited_one, deposited_all, Deposits, DepositsPart, IsFresh}

-- by one test
picked_none : (test : Bool) (r : Range) (rs : List Range) → cond test (r ∷ rs) rs ≡ [] → (test ≡ false) × (rs ≡ [])
picked_none true r rs h = cc
picked_none false r rs h = (refl, h)

-- where none of the first i is of the vCPU, nor is the next one, none of the first i + 1 is
pub none_more : {X : Type 0} (f : X → Range) (v i : ℕ) (xs : List X) (b : X) → b ≡ slice_index_or xs i b → i < length xs → of_vcpu v (map f (take i xs)) ≡ [] → ((f b).vcpu == v) ≡ false → of_vcpu v (map f (take (i + 1) xs)) ≡ []
none_more f v i [] b at lt none not = absurd (omega (arith, lt))
none_more f v zero (x ∷ xs) b at lt none not = rw (← at, not) refl
none_more f v (suc i) (x ∷ xs) b at lt none not =
    let parts = picked_none ((f x).vcpu == v) (f x) (of_vcpu v (map f (take i xs))) none in
    ap (λ k. of_vcpu v (map f (take k (x ∷ xs)))) (add-one (suc i))
    ∙ rw (parts.0) (ap (λ k. of_vcpu v (map f (take k xs))) (sym (add-one i)) ∙ none_more f v i xs b at (omega (arith, lt)) parts.1 not)

-- the first of the vCPU, where it is taken out
pub first_taken : {X : Type 0} (f : X → Range) (v i : ℕ) (xs : List X) (b : X) → b ≡ slice_index_or xs i b → i < length xs → of_vcpu v (map f (take i xs)) ≡ [] → ((f b).vcpu == v) ≡ true → of_vcpu v (map f xs) ≡ f b ∷ of_vcpu v (map f (remove xs i))
first_taken f v i [] b at lt none is = absurd (omega (arith, lt))
first_taken f v zero (x ∷ xs) b at lt none is = rw (← at, is) refl
first_taken f v (suc i) (x ∷ xs) b at lt none is =
    let parts = picked_none ((f x).vcpu == v) (f x) (of_vcpu v (map f (take i xs))) none in
    rw (parts.0) (first_taken f v i xs b at (omega (arith, lt)) parts.1 is)

-- those of another vCPU stay
pub others_stay : {X : Type 0} (f : X → Range) (w i : ℕ) (xs : List X) (b : X) → b ≡ slice_index_or xs i b → i < length xs → ((f b).vcpu == w) ≡ false → of_vcpu w (map f (remove xs i)) ≡ of_vcpu w (map f xs)
others_stay f w i [] b at lt not = absurd (omega (arith, lt))
others_stay f w zero (x ∷ xs) b at lt not = rw (← at, not) refl
others_stay f w (suc i) (x ∷ xs) b at lt not = ap (λ rs. cond ((f x).vcpu == w) (f x ∷ rs) rs) (others_stay f w i xs b at (omega (arith, lt)) not)

pub not_other : (u v w : ℕ) → (u == v) ≡ true → (w == v) ≡ false → (u == w) ≡ false
not_other u v w is not = ne_eqb u w (λ e. true≢false (sym is ∙ ap (λ k. k == v) e ∙ not))

-- deposits of two lists, one after the other
deposited_append : (xs ys : List Range) (past : List Event) → deposited_all (xs ++ ys) past ≡ deposited_all ys (deposited_all xs past)
deposited_append [] ys past = refl
deposited_append (x ∷ xs) ys past = deposited_append xs ys (deposited_one x past)

pub deposits_none : (rs : List Range) (old : List Event) → Deposits rs rs old old
deposits_none rs old = record { done = []; parts = refl; past = refl }

-- the next one too
pub deposits_more : (rs left rest : List Range) (r : Range) (old mid new : List Event) → Deposits rs left old mid → left ≡ r ∷ rest → new ≡ deposited_one r mid → Deposits rs rest old new
deposits_more rs left rest r old mid new d is one = record {
  done = d.done ++ r ∷ [];
  parts = d.parts ∙ ap (λ xs. d.done ++ xs) is ∙ sym (append_assoc d.done (r ∷ []) rest);
  past = one ∙ ap (deposited_one r) d.past ∙ sym (deposited_append d.done (r ∷ []) old);
}

-- where none is left
pub deposits_whole : (rs left : List Range) (old new : List Event) → Deposits rs left old new → left ≡ [] → new ≡ deposited_all rs old
deposits_whole rs left old new d is = d.past ∙ ap (λ xs. deposited_all xs old) (sym (d.parts ∙ ap (λ xs. d.done ++ xs) is ∙ append-nil d.done))

pub deposits_part : (rs left rest : List Range) (next : Range) (old mid new : List Event) → Deposits rs left old mid → left ≡ next ∷ rest → IsFresh next mid → new ≡ mid → DepositsPart rs old new
deposits_part rs left rest next old mid new d is fresh same = record {
  next = next;
  rest = rest;
  deposits = record { done = d.done; parts = d.parts ∙ ap (λ xs. d.done ++ xs) is; past = same ∙ d.past };
  fresh = subst (IsFresh next) (sym same) fresh;
}

-- those of one more vCPU are deposited
pub order_more : (v : ℕ) (rs here : List Range) (old mid new : List Event) → mid ≡ deposited_all (in_order v rs) old → here ≡ of_vcpu v rs → new ≡ deposited_all here mid → new ≡ deposited_all (in_order (v + 1) rs) old
order_more v rs here old mid new before is one =
    one ∙ ap (λ xs. deposited_all xs mid) is ∙ ap (deposited_all (of_vcpu v rs)) before ∙ sym (deposited_append (in_order v rs) (of_vcpu v rs) old)
    ∙ ap (λ k. deposited_all (in_order k rs) old) (sym (add-one v))

-- the list of more vCPUs begins with that of fewer
record Begins (rs : List Range) (v n : ℕ) : Type 0 where
  pub rest : List Range
  pub parts : in_order n rs ≡ in_order v rs ++ rest

order_begins : (rs : List Range) (v n : ℕ) → v ≤ n → Begins rs v n
order_begins rs v zero le =
    let e : v ≡ 0 = omega (arith, le) in
    record { rest = []; parts = ap (λ k. in_order k rs) (sym e) ∙ sym (append-nil (in_order v rs)) }
order_begins rs v (suc n) le =
    elim (cases_lt n v) [
      | inl l ↦ let e : v ≡ suc n = omega (arith, l, le) in record { rest = []; parts = ap (λ k. in_order k rs) (sym e) ∙ sym (append-nil (in_order v rs)) }
      | inr l ↦ let b = order_begins rs v n l in record { rest = b.rest ++ of_vcpu n rs; parts = ap (λ xs. xs ++ of_vcpu n rs) b.parts ∙ append_assoc (in_order v rs) b.rest (of_vcpu n rs) }
    ]

-- some of those of one vCPU, after all of those before it
pub order_part : (v n : ℕ) (rs here : List Range) (old mid new : List Event) → v < n → mid ≡ deposited_all (in_order v rs) old → here ≡ of_vcpu v rs → DepositsPart here mid new → DepositsPart (in_order n rs) old new
order_part v n rs here old mid new lt before is part =
    let b = order_begins rs (suc v) n (omega (arith, lt)) in
    let d = part.deposits in
    record {
      next = part.next;
      rest = part.rest ++ b.rest;
      fresh = part.fresh;
      deposits = record {
        done = in_order v rs ++ d.done;
        parts = b.parts ∙ ap (λ xs. (in_order v rs ++ xs) ++ b.rest) (sym is ∙ d.parts)
            ∙ ap (λ xs. xs ++ b.rest) (sym (append_assoc (in_order v rs) d.done (part.next ∷ part.rest)))
            ∙ append_assoc (in_order v rs ++ d.done) (part.next ∷ part.rest) b.rest;
        past = d.past ∙ ap (deposited_all d.done) before ∙ sym (deposited_append (in_order v rs) d.done old);
      };
    }

-- what stands at a place is there whatever else is meant
pub same_at : {X : Type 0} (xs : List X) (i : ℕ) (a b : X) → i < length xs → slice_index_or xs i a ≡ slice_index_or xs i b
same_at [] i a b lt = absurd (omega (arith, lt))
same_at (x ∷ xs) zero a b lt = refl
same_at (x ∷ xs) (suc i) a b lt = same_at xs i a b (omega (arith, lt))
