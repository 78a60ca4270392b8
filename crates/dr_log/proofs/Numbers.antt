-- Deposited entries by their numbers.
use Rattle.std.proofs.Common.{◌≡◌, ℕ, zero, suc, ◌+◌, ◌<◌, ◌≤◌, Bool, true, false, List, [], ◌∷◌, refl, ap, sym, ◌∙◌, arith, add-one, inl, inr}
use Rattle.std.specs.Prelude.{◌&&◌, ◌||◌, nat_le}
use Rattle.std.specs.List.{list_any}
use Rattle.std.proofs.lemmas.Bool.{le-leb, lt-leb, cases_lt}
use Rattle.std.proofs.lemmas.List.{get_or_past}
use Rattle.std.proofs.lemmas.List.Folds.{list_any-append}
use Rattle.dr_types.specs.declared.guest.Guest.{Guest}
use Rattle.dr_history.specs.declared.event.Event.{Event}
use Rattle.dr_history.specs.Legality.{IsLegalSoFar}
use Rattle.dr_history.specs.Lookback.{below}
use Rattle.dr_history.specs.Entries.{opens}
use Rattle.dr_history.specs.Rules.{deposits_some, deposits_entry}
use Rattle.dr_history_law.proofs.Entered.{undeposited, some_deposited}
use Rattle.dr_state.specs.Opened.{entries_of, entry_of}
use Rattle.dr_state.specs.declared.entry_fields.OpenedEntry.{OpenedEntry}
use Rattle.dr_state.proofs.Tables.{get-table, length-table}
use Rattle.dr_log.specs.Tests.{deposited_at}

or_false : (a b : Bool) → (a || (b || false)) ≡ (a || b)
or_false true b = refl
or_false false true = refl
or_false false false = refl

next_any : (p : ℕ → Bool) (n : ℕ) → list_any p (below (n + 1)) ≡ (list_any p (below n) || p n)
next_any p n = ap (λ k. list_any p (below k)) (add-one n) ∙ list_any-append p (below n) (n ∷ []) ∙ or_false (list_any p (below n)) (p n)

-- one more entry is looked at
pub any_more : (entries : List OpenedEntry) (from k : ℕ) → from ≤ k → list_any (λ j. nat_le from j && deposited_at entries j) (below (k + 1)) ≡ (list_any (λ j. nat_le from j && deposited_at entries j) (below k) || deposited_at entries k)
any_more entries from k h =
    next_any (λ j. nat_le from j && deposited_at entries j) k
    ∙ ap (λ b. list_any (λ j. nat_le from j && deposited_at entries j) (below k) || (b && deposited_at entries k)) (le-leb from k h)

none_below : (p : ℕ → Bool) (n : ℕ) → ((k : ℕ) → k < n → p k ≡ false) → list_any p (below n) ≡ false
none_below p zero h = refl
none_below p (suc n) h =
    list_any-append p (below n) (n ∷ []) ∙ ap (λ b. b || (p n || false)) (none_below p n (λ k lt. h k (omega arith))) ∙ ap (λ b. b || false) (h n (omega arith))

pub none_before : (entries : List OpenedEntry) (from : ℕ) → list_any (λ j. nat_le from j && deposited_at entries j) (below from) ≡ false
none_before entries from = none_below (λ j. nat_le from j && deposited_at entries j) from (λ k lt. ap (λ b. b && deposited_at entries k) (lt-leb from k lt))

-- an entry is deposited as the events say
pub at_number : (guest : Guest) (past : List Event) (v k : ℕ) (entries : List OpenedEntry) → IsLegalSoFar guest past → entries ≡ entries_of past v → deposited_at entries k ≡ list_any (deposits_entry v k) past
at_number guest past v k entries legal is =
    let no : OpenedEntry = record { page = 0; deposited = false } in
    ap (λ es. deposited_at es k) is
    ∙ elim (cases_lt k (opens v past)) [
      | inl lt ↦ ap (λ (x : OpenedEntry). x.deposited) (get-table (entry_of past v) (opens v past) k no lt)
      | inr le ↦
          ap (λ (x : OpenedEntry). x.deposited) (get_or_past (entries_of past v) k no (omega (arith, le, length-table (entry_of past v) (opens v past))))
          ∙ sym (undeposited guest past v k legal le)
    ]

same_any : (p q : ℕ → Bool) (xs : List ℕ) → ((k : ℕ) → p k ≡ q k) → list_any p xs ≡ list_any q xs
same_any p q [] h = refl
same_any p q (x ∷ xs) h = ap (λ b. b || list_any p xs) (h x) ∙ ap (λ b. q x || b) (same_any p q xs h)

pub some_at : (guest : Guest) (past : List Event) (v from to : ℕ) (entries : List OpenedEntry) → IsLegalSoFar guest past → entries ≡ entries_of past v → from < to → list_any (λ k. nat_le from k && deposited_at entries k) (below to) ≡ list_any (deposits_some v from to) past
some_at guest past v from to entries legal is lt =
    same_any (λ k. nat_le from k && deposited_at entries k) (λ k. nat_le from k && list_any (deposits_entry v k) past) (below to) (λ k. ap (λ b. nat_le from k && b) (at_number guest past v k entries legal is))
    ∙ sym (some_deposited guest past v from to lt legal)
