-- What resets leave, vCPU by vCPU.
use Rattle.std.proofs.Common.{◌≡◌, ℕ, ◌+◌, ◌<◌, true, false, List, ◌∷◌, refl, ap, sym, subst, ◌∙◌, arith, add-one, inl, inr}
use Rattle.std.proofs.lemmas.Bool.{eq-eqb, cases_lt}
use Rattle.dr_history.specs.declared.event.Event.{Event}
use Rattle.dr_history.specs.declared.event.Event.TheVariants.{Reset}
use Rattle.dr_history.specs.Entries.{resets}
use Rattle.dr_turns_law.specs.Deposits.{next_deposited}
use Rattle.dr_schedule_law.specs.Settled.{reset_after, Resets, ResetsSome, ResetsAll, ResetsBelow, ResetsPart}

-- a Reset of the vCPU counts
pub resets_own : (v k : ℕ) (past new : List Event) → new ≡ Reset v k ∷ past → resets v new ≡ resets v past + 1
resets_own v k past new is = ap (resets v) is ∙ rw (eq-eqb v v refl) refl

pub resets_none : (v : ℕ) (old : List Event) → Resets v old old 0
resets_none v old = record { past = refl; due = λ k lt. absurd (omega (arith, lt)) }

-- the next entry too
pub resets_more : (v n : ℕ) (old mid new : List Event) → Resets v old mid n → next_deposited v mid ≡ true → new ≡ Reset v (resets v mid) ∷ mid → Resets v old new (n + 1)
resets_more v n old mid new r due one = record {
  past = one ∙ ap (λ (xs : List Event). Reset v (resets v xs) ∷ xs) r.past ∙ ap (λ k. reset_after v k old) (sym (add-one n));
  due = λ k lt.
      elim (cases_lt k n) [
        | inl l ↦ r.due k l
        | inr l ↦ let e : k ≡ n = omega (arith, l, lt) in ap (λ j. next_deposited v (reset_after v j old)) e ∙ ap (next_deposited v) (sym r.past) ∙ due
      ];
}

pub resets_all : (v n : ℕ) (old mid new : List Event) → Resets v old mid n → next_deposited v mid ≡ false → new ≡ mid → ResetsAll v old new n
resets_all v n old mid new r none same = record { resets = record { past = same ∙ r.past; due = r.due }; none = ap (next_deposited v) same ∙ none }

pub resets_some : (v n : ℕ) (old mid new : List Event) → Resets v old mid n → next_deposited v mid ≡ true → new ≡ mid → ResetsSome v old new
resets_some v n old mid new r due same = record {
  count = n;
  resets = record { past = same ∙ r.past; due = r.due };
  due = ap (next_deposited v) same ∙ due;
}

pub below_none : (old : List Event) → ResetsBelow 0 old old 0
below_none old = (refl, refl)

-- one more vCPU
pub below_more : (v t n total : ℕ) (old mid new : List Event) → ResetsBelow v old mid t → ResetsAll v mid new n → total ≡ t + n → ResetsBelow (v + 1) old new total
below_more v t n total old mid new below all is =
    subst (λ k. ResetsBelow k old new total) (sym (add-one v)) (mid, t, n, below, all, is)

pub below_part : (v vcpus t : ℕ) (old mid new : List Event) → v < vcpus → ResetsBelow v old mid t → ResetsSome v mid new → ResetsPart vcpus old new
below_part v vcpus t old mid new lt below some = record {
  vcpu = v;
  within = lt;
  mid = mid;
  before = t;
  below = below;
  here = some;
}
