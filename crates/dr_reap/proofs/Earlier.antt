-- A settling extends the events, so what it began with is legal where its end is; and where it is cut off.
use Rattle.std.proofs.Common.{◌≡◌, ℕ, zero, suc, ◌<◌, ◌≤◌, Bool, true, false, cond, List, [], ◌∷◌, ◌++◌, refl, ap, sym, subst, ◌∙◌, arith, inl, inr, ◌⊎◌}
use Rattle.std.proofs.lemmas.List.{append-nil}
use Rattle.dr_types.specs.declared.guest.Guest.{Guest}
use Rattle.dr_types.specs.Scripts.{vcpu_count}
use Rattle.dr_history.specs.declared.event.Event.{Event}
use Rattle.dr_history.specs.declared.event.Event.TheVariants.{Reset}
use Rattle.dr_history.specs.Entries.{resets}
use Rattle.dr_history.specs.Legality.{IsLegalSoFar}
use Rattle.dr_schedule_law.specs.Settled.{Range, of_vcpu, in_order, deposited_all, reset_after, Settles, ResetsBelow, ResetsPart, FlushWaits}
use Rattle.dr_schedule_law.specs.Reaps.{Extends}
use Rattle.dr_schedule_law.proofs.Extending.{extends_still, extends_more, extends_then, flush_extends}

legal_rest : (guest : Guest) (more old : List Event) → IsLegalSoFar guest (more ++ old)
    → IsLegalSoFar guest old
legal_rest guest [] old legal = legal
legal_rest guest (e ∷ more) old legal = legal_rest guest more old legal.1

-- what came before legal events is legal
pub legal_before : (guest : Guest) (old new : List Event) → Extends old new → IsLegalSoFar guest new
    → IsLegalSoFar guest old
legal_before guest old new it legal = legal_rest guest it.more old
    (subst (λ (xs : List Event). IsLegalSoFar guest xs) it.parts legal)

resets_grow : (v n : ℕ) (past : List Event) → Extends past (reset_after v n past)
resets_grow v zero past = extends_still past
resets_grow v (suc n) past = extends_more past (reset_after v n past)
    (Reset v (resets v (reset_after v n past))) (resets_grow v n past)

below_grows : (n total : ℕ) (old new : List Event) → ResetsBelow n old new total → Extends old new
below_grows zero total old new below = subst (Extends old) (sym below.0) (extends_still old)
below_grows (suc v) total old new below =
    extends_then old below.0 new (below_grows v below.1 old below.0 below.3)
    (subst (Extends below.0) (sym below.4.resets.past) (resets_grow v below.2 below.0))

-- a settling extends what its deposits left
pub settled_grows : (guest : Guest) (rs : List Range) (old new : List Event) (n : ℕ)
    → Settles guest rs old new n → Extends (deposited_all (in_order (vcpu_count guest) rs) old) new
settled_grows guest rs old new n it =
    extends_then (deposited_all (in_order (vcpu_count guest) rs) old) it.mid new
    (below_grows (vcpu_count guest) n (deposited_all (in_order (vcpu_count guest) rs) old) it.mid it.resets)
    (subst (Extends it.mid) (sym it.past) (flush_extends guest it.mid))

-- and so does one that is cut off in its resets
pub resets_part_grows : (vcpus : ℕ) (old new : List Event) → ResetsPart vcpus old new → Extends old new
resets_part_grows vcpus old new part =
    extends_then old part.mid new (below_grows part.vcpu part.before old part.mid part.below)
    (subst (Extends part.mid) (sym part.here.resets.past) (resets_grow part.vcpu part.here.count part.mid))

-- or before its flush
pub flush_waits_grows : (guest : Guest) (old new : List Event) → FlushWaits guest old new → Extends old new
flush_waits_grows guest old new waits = below_grows (vcpu_count guest) waits.count old new waits.resets

none_there : (ys rest : List Range) (next : Range) → [] ≡ ys ++ next ∷ rest → ⊥
none_there [] rest next h = cc
none_there (y ∷ ys) rest next h = cc

-- where one list is split, of which another is all but the last
record After (xs ys : List Range) (next : Range) : Type 0 where
  pub rest : List Range
  pub parts : xs ≡ ys ++ next ∷ rest

split_last : (xs ys rest : List Range) (x next : Range) → xs ++ x ∷ [] ≡ ys ++ next ∷ rest
    → (ys ≡ xs) ⊎ After xs ys next
split_last [] [] rest x next h = inl refl
split_last (z ∷ xs) [] rest x next h = inr (record { rest = xs; parts = cc })
split_last [] (y ∷ ys) rest x next h = absurd (none_there ys rest next cc)
split_last (z ∷ xs) (y ∷ ys) rest x next h =
    elim (split_last xs ys rest x next cc) [
      | inl e ↦ inl cc
      | inr b ↦ inr (record { rest = b.rest; parts = let p = b.parts in cc })
    ]

-- the ranges before one are those of the first vCPUs
pub record AreBelow (rs done : List Range) (n : ℕ) : Type 0 where
  pub vcpu : ℕ
  pub within : vcpu ≤ n
  pub done_is : done ≡ in_order vcpu rs

below_later : (rs done : List Range) (n : ℕ) → AreBelow rs done n → AreBelow rs done (suc n)
below_later rs done n it = record
    { vcpu = it.vcpu; within = (let w = it.within in omega (arith, w)); done_is = it.done_is }

cut_case : (test : Bool) (n : ℕ) (rs here done rest : List Range) (r next : Range)
    → here ≡ cond test (r ∷ []) [] → in_order n rs ++ here ≡ done ++ next ∷ rest
    → ((more : List Range) → in_order n rs ≡ done ++ next ∷ more → AreBelow rs done n)
    → AreBelow rs done (suc n)
cut_case true n rs here done rest r next is parts on =
    elim (split_last (in_order n rs) done rest r next (ap (λ xs. in_order n rs ++ xs) (sym is) ∙ parts)) [
      | inl e ↦ record { vcpu = n; within = omega arith; done_is = e }
      | inr b ↦ below_later rs done n (on b.rest b.parts)
    ]
cut_case false n rs here done rest r next is parts on =
    below_later rs done n
    (on rest (sym (append-nil (in_order n rs)) ∙ ap (λ xs. in_order n rs ++ xs) (sym is) ∙ parts))

-- where each vCPU has at most one range, a cut is between two vCPUs
pub cut_between : (tests : ℕ → Bool) (ranges : ℕ → Range) (n : ℕ) (rs done rest : List Range)
    (next : Range) → ((v : ℕ) → v < n → of_vcpu v rs ≡ cond (tests v) (ranges v ∷ []) [])
    → in_order n rs ≡ done ++ next ∷ rest → AreBelow rs done n
cut_between tests ranges zero rs done rest next one parts = absurd (none_there done rest next parts)
cut_between tests ranges (suc n) rs done rest next one parts =
    cut_case (tests n) n rs (of_vcpu n rs) done rest (ranges n) next (one n (omega arith)) parts
    (λ more. cut_between tests ranges n rs done more next (λ v lt. one v (omega (arith, lt))))
