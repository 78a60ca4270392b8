-- A walk from member to member, by the least member from a number on.
use Rattle.std.proofs.Common.{◌≡◌, ◌⊎◌, ℕ, zero, suc, ◌+◌, ◌<◌, ◌≤◌, Bool, true, false, cond, List, [], ◌∷◌, ◌++◌, length, get_or, Some, None, refl, ap, sym, subst, ◌∙◌, arith, inl, inr, append_assoc}
use Rattle.std.specs.Prelude.{nat_le}
use Rattle.std.proofs.lemmas.Bool.{cases_lt, le-leb}
use Rattle.std.proofs.lemmas.List.{append-nil}
use Rattle.dr_bitmap.specs.Members.{members, least_from}
use Rattle.dr_bitmap.proofs.Leasts.{all_from, all_here, all_later, least_here, least_later, least_past}

-- q is the first member from p on: those from p on are q, and those after it
pub record IsNext (p q : ℕ) (flags : List Bool) : Type 0 where
  pub least : p ≤ q
  pub within : q < length flags
  pub is_in : get_or flags q false ≡ true
  pub walk : all_from p (members flags) ≡ q ∷ all_from (q + 1) (members flags)

-- all that are at least 0 are all
pub all_from_start : (xs : List ℕ) → all_from 0 xs ≡ xs
all_from_start [] = refl
all_from_start (x ∷ xs) = rw (le-leb 0 x (omega arith)) (ap (λ ys. x ∷ ys) (all_from_start xs))

-- where there is no least, there is none
pub none_left : (p : ℕ) (xs : List ℕ) → least_from p xs ≡ None → all_from p xs ≡ []
none_left p [] none = refl
none_left p (x ∷ xs) none = by_test (nat_le p x) none (none_left p xs)
  where
    by_test : (b : Bool) → cond b (Some x) (least_from p xs) ≡ None → (least_from p xs ≡ None → all_from p xs ≡ []) → cond b (x ∷ all_from p xs) (all_from p xs) ≡ []
    by_test true is more = absurd cc
    by_test false is more = more is

-- the number itself is a member, or another is the first
next_here : (p q : ℕ) (flags : List Bool) → p < length flags → get_or flags p false ≡ true → least_from p (members flags) ≡ Some q → IsNext p q flags
next_here p q flags lt is_in found =
    let here : Some p ≡ Some q = sym (least_here flags p false lt is_in) ∙ found in
    let same : p ≡ q = cc in
    subst (λ (n : ℕ). IsNext p n flags) same (record { least = omega arith; within = lt; is_in = is_in; walk = all_here flags p false lt is_in })

next_later : (p q : ℕ) (flags : List Bool) → p < length flags → get_or flags p false ≡ false → IsNext (p + 1) q flags → IsNext p q flags
next_later p q flags lt unset h = record {
  least = omega (arith, h.least);
  within = h.within;
  is_in = h.is_in;
  walk = all_later flags p false lt unset ∙ h.walk;
}

flag_cases : (b : Bool) → (b ≡ true) ⊎ (b ≡ false)
flag_cases true = inl refl
flag_cases false = inr refl

next_within : (k p q : ℕ) (flags : List Bool) → length flags ≤ p + k → least_from p (members flags) ≡ Some q → IsNext p q flags
next_within zero p q flags le found = let none : least_from p (members flags) ≡ None = least_past flags p (omega arith) in absurd cc
next_within (suc k) p q flags le found =
    elim (cases_lt p (length flags)) [
      | inl lt ↦
          elim (flag_cases (get_or flags p false)) [
            | inl is_in ↦ next_here p q flags lt is_in found
            | inr unset ↦
                next_later p q flags lt unset (next_within k (p + 1) q flags (omega arith) (least_later flags p false lt unset ∙ found))
          ]
      | inr past ↦ let none : least_from p (members flags) ≡ None = least_past flags p past in absurd cc
    ]

-- what is found from p on is the first member from there on
pub next : (p q : ℕ) (flags : List Bool) → least_from p (members flags) ≡ Some q → IsNext p q flags
next p q flags found = next_within (length flags) p q flags (omega arith) found

-- these are the members below p, so that a walk goes on at p
pub record IsGathered (xs : List ℕ) (p : ℕ) (flags : List Bool) : Type 0 where
  pub rest : xs ++ all_from p (members flags) ≡ members flags

pub gathers_none : (xs : List ℕ) (flags : List Bool) → xs ≡ [] → IsGathered xs 0 flags
gathers_none xs flags is = record { rest = ap (λ ys. ys ++ all_from 0 (members flags)) is ∙ all_from_start (members flags) }

pub gathers_next : (xs new : List ℕ) (p q : ℕ) (flags : List Bool) → IsGathered xs p flags → Some q ≡ least_from p (members flags) → new ≡ xs ++ q ∷ [] → IsGathered new (q + 1) flags
gathers_next xs new p q flags h found put = record {
  rest =
      ap (λ ys. ys ++ all_from (q + 1) (members flags)) put ∙ append_assoc xs (q ∷ []) (all_from (q + 1) (members flags))
      ∙ ap (λ ys. xs ++ ys) (sym (next p q flags (sym found)).walk) ∙ h.rest;
}

pub gathers_all : (xs : List ℕ) (p : ℕ) (flags : List Bool) → IsGathered xs p flags → None ≡ least_from p (members flags) → xs ≡ members flags
gathers_all xs p flags h none =
    sym (append-nil xs) ∙ ap (λ ys. xs ++ ys) (sym (none_left p (members flags) (sym none))) ∙ h.rest

pub ruleset walk_steps = (gathers_none, gathers_next, gathers_all)
