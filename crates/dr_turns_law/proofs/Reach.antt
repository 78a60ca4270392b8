-- How far a vCPU's entries are deposited.
use Rattle.std.proofs.Common.{◌≡◌, ℕ, zero, suc, ◌+◌, ◌<◌, ◌≤◌, Bool, true, false, List, [], ◌∷◌, refl, ap, sym, ◌∙◌, subst, arith, inl, inr}
use Rattle.std.specs.Prelude.{◌&&◌, ◌||◌, nat_le, nat_lt}
use Rattle.std.specs.List.{list_any}
use Rattle.std.proofs.lemmas.Bool.{and_parts, cases_lt, lt-ltb, le-ltb, le-leb, leb-true, false≢true, true≢false, false_from_ne_true}
use Rattle.std.proofs.lemmas.List.Folds.{list_any-append}
use Rattle.dr_types.specs.declared.guest.Guest.{Guest}
use Rattle.dr_history.specs.declared.event.Event.{Event}
use Rattle.dr_history.specs.Entries.{pushes, resets}
use Rattle.dr_history.specs.Legality.{IsLegalSoFar}
use Rattle.dr_history.specs.Lookback.{below}
use Rattle.dr_history.specs.Rules.{deposits_entry, deposits_some}
use Rattle.dr_history_law.proofs.Entered.{some_deposited}
use Rattle.dr_history_law.proofs.Listing.{none_below}
use Rattle.dr_history_law.proofs.Outstanding.{deposited_pushed}
use Rattle.dr_turns_law.specs.Deposits.{FirstDeposited, NoneFrom, SomeFrom, HasGap}
use Rattle.dr_turns_law.proofs.Done.{reset_deposited}

-- all that are reset are
pub resets_are_deposited : (guest : Guest) (past : List Event) (v : ℕ) → IsLegalSoFar guest past → FirstDeposited v (resets v past) past
resets_are_deposited guest past v legal = record { each = λ k lt. reset_deposited guest past v k legal lt }

-- and one more
pub one_more_deposited : (past : List Event) (v n : ℕ) → FirstDeposited v n past → list_any (deposits_entry v n) past ≡ true → FirstDeposited v (n + 1) past
one_more_deposited past v n first is = record {
  each = λ k lt.
      elim (cases_lt k n) [
        | inl l ↦ first.each k l
        | inr g ↦ (let here : n ≡ k = omega (arith, lt, g) in subst (λ (j : ℕ). list_any (deposits_entry v j) past ≡ true) here is)
      ];
}

-- what isn't pushed isn't deposited
pub unpushed_undeposited : (guest : Guest) (past : List Event) (v k : ℕ) → IsLegalSoFar guest past → pushes v past ≤ k → list_any (deposits_entry v k) past ≡ false
unpushed_undeposited guest past v k legal le = false_from_ne_true _ (λ h. let lt = deposited_pushed guest past v k legal h in omega (arith, lt, le))

pub none_from_pushes : (guest : Guest) (past : List Event) (v n : ℕ) → IsLegalSoFar guest past → pushes v past ≤ n → NoneFrom v n past
none_from_pushes guest past v n legal le = record { none = λ k from. unpushed_undeposited guest past v k legal (omega (arith, le, from)) }

pub none_from : (guest : Guest) (past : List Event) (v n : ℕ) → IsLegalSoFar guest past → n < pushes v past → list_any (deposits_some v n (pushes v past)) past ≡ false → NoneFrom v n past
none_from guest past v n legal lt none = record {
  none = λ k from.
      elim (cases_lt k (pushes v past)) [
        | inl l ↦ (
            let fails : (nat_le n k && list_any (deposits_entry v k) past) ≡ false =
            none_below (λ j. nat_le n j && list_any (deposits_entry v j) past) (pushes v past) k (sym (some_deposited guest past v n (pushes v past) lt legal) ∙ none) l in
            ap (λ b. b && list_any (deposits_entry v k) past) (sym (le-leb n k from)) ∙ fails)
        | inr g ↦ unpushed_undeposited guest past v k legal g
      ];
}

any_case : (a b : Bool) → (a || (b || false)) ≡ true → a ≡ false → b ≡ true
any_case a true h n = refl
any_case true false h n = absurd (true≢false n)
any_case false false h n = h

abbrev Passing : (ℕ → Bool) → ℕ → Type 0
Passing f n = (k : ℕ) × (k < n) × (f k ≡ true)

some_case : (f : ℕ → Bool) (n : ℕ) (b : Bool) → (b ≡ true → Passing f n) → (b || (f n || false)) ≡ true → Passing f (suc n)
some_case f n true rest h = let found = rest refl in (found.0, omega (arith, found.1), found.2)
some_case f n false rest h = (n, omega arith, any_case false (f n) h refl)

-- a number below a bound that passes, where some does
some_below : (f : ℕ → Bool) (n : ℕ) → list_any f (below n) ≡ true → Passing f n
some_below f zero h = absurd (false≢true h)
some_below f (suc n) h = some_case f n (list_any f (below n)) (some_below f n) (sym (list_any-append f (below n) (n ∷ [])) ∙ h)

pub some_from : (guest : Guest) (past : List Event) (v n : ℕ) → IsLegalSoFar guest past → n < pushes v past → list_any (deposits_some v n (pushes v past)) past ≡ true → SomeFrom v n past
some_from guest past v n legal lt some =
    let found = some_below (λ j. nat_le n j && list_any (deposits_entry v j) past) (pushes v past) (sym (some_deposited guest past v n (pushes v past) lt legal) ∙ some) in
    let parts = and_parts (nat_le n found.0) (list_any (deposits_entry v found.0) past) found.2 in
    record { later = found.0; order = leb-true n found.0 parts.0; deposited = parts.1 }

-- the deposited numbers are those below the first that isn't, where none from there on is
pub exactly_first : (past : List Event) (v n : ℕ) → FirstDeposited v n past → NoneFrom v n past → (k : ℕ) → list_any (deposits_entry v k) past ≡ nat_lt k n
exactly_first past v n first none k =
    elim (cases_lt k n) [
      | inl l ↦ first.each k l ∙ sym (lt-ltb k n l)
      | inr g ↦ none.none k g ∙ sym (le-ltb k n g)
    ]

-- and else there is a gap
pub gap_here : (past : List Event) (v n : ℕ) → list_any (deposits_entry v n) past ≡ false → SomeFrom v n past → HasGap v past
gap_here past v n missing some = record {
  gap = n;
  later = some.later;
  order =
      elim (cases_lt n some.later) [
        | inl l ↦ l
        | inr g ↦ (
            let here : some.later ≡ n = (let le = some.order in omega (arith, le, g)) in
            absurd (true≢false (sym some.deposited ∙ ap (λ (j : ℕ). list_any (deposits_entry v j) past) here ∙ missing)))
      ];
  missing = missing;
  deposited = some.deposited;
}
