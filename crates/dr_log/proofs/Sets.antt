-- The numbers of the flags that are set.
use Rattle.std.proofs.Common.{◌≡◌, ℕ, zero, suc, ◌+◌, ◌<◌, ◌≤◌, Bool, true, false, cond, List, [], ◌∷◌, ◌++◌, length, get_or, drop, Option, Some, None, refl, ap, sym, ◌∙◌, arith, add-one, true≢false}
use Rattle.std.specs.Prelude.{◌&&◌, not, is_some, is_none}
use Rattle.std.specs.List.{filter}
use Rattle.std.proofs.Math.Seq.{drop-cons}
use Rattle.std.proofs.Math.ListN.{drop_of_length-le}
use Rattle.std.proofs.lemmas.Bool.{eq-eqb, ne_eqb, eqb-true}
use Rattle.std.proofs.lemmas.List.Elements.{filter-append}
use Rattle.dr_types.specs.declared.guest.Guest.{Guest}
use Rattle.dr_types.specs.Pages.{page_count}
use Rattle.dr_history.specs.declared.event.Event.{Event}
use Rattle.dr_history.specs.Dirty.{dirty, dirty_pages}
use Rattle.dr_history.specs.Lookback.{below, is_number}
use Rattle.dr_history.specs.Rules.{same_numbers}
use Rattle.dr_state.specs.Rows.{table}
use Rattle.dr_state.proofs.Tables.{table_more, length-table}
use Rattle.dr_bitmap.specs.Members.{members, least_from}
use Rattle.dr_bitmap.proofs.Counts.{members_last}
use Rattle.dr_bitmap.proofs.Leasts.{all_from}
use Rattle.dr_bitmap.proofs.Walks.{all_from_start, none_left, next}

found : (x : ℕ) (o : Option ℕ) → is_number x o ≡ true → o ≡ Some x
found x None h = absurd (true≢false (sym h))
found x (Some q) h = ap Some (eqb-true q x h)

set_table : (f : ℕ → Bool) (n : ℕ) → members (table f n) ≡ filter f (below n)
set_table f zero = refl
set_table f (suc n) =
    let place : 0 + length (table f n) ≡ n = omega (arith, length-table f n) in
    ap members (table_more f n) ∙ members_last 0 (table f n) (f n)
    ∙ ap (λ ns. ns ++ cond (f n) ((0 + length (table f n)) ∷ []) []) (set_table f n)
    ∙ ap (λ m. filter f (below n) ++ cond (f n) (m ∷ []) []) place
    ∙ sym (filter-append f (below n) (n ∷ []))

pub dirty_set : (guest : Guest) (past : List Event) (flags : List Bool) (n : ℕ) → n ≡ page_count guest → flags ≡ table (λ page. dirty page past) n → members flags ≡ dirty_pages guest past
dirty_set guest past flags n size is =
    ap members is ∙ set_table (λ page. dirty page past) n ∙ ap (λ k. filter (λ page. dirty page past) (below k)) size

-- a page that comes next
pub hits : (flags : List Bool) (pages : List ℕ) (at from d : ℕ) (all : Bool) → at < length pages → is_number (get_or pages at d) (least_from from (members flags)) ≡ true
    → same_numbers (drop at pages) (all_from from (members flags)) ≡ all → same_numbers (drop (at + 1) pages) (all_from (get_or pages at d + 1) (members flags)) ≡ all
hits flags pages at from d all lt comes h =
    let x : ℕ = get_or pages at d in
    let later : List ℕ = all_from (x + 1) (members flags) in
    sym (ap (λ ps. same_numbers ps (all_from from (members flags))) (drop-cons pages at d lt)
    ∙ ap (λ ms. same_numbers (x ∷ drop (suc at) pages) ms) (next from x flags (found x (least_from from (members flags)) comes)).walk
    ∙ ap (λ b. b && same_numbers (drop (suc at) pages) later) (eq-eqb x x refl)
    ∙ ap (λ k. same_numbers (drop k pages) later) (sym (add-one at))) ∙ h

-- one that doesn't
other : (flags : List Bool) (from x : ℕ) (rest : List ℕ) (o : Option ℕ) → least_from from (members flags) ≡ o → is_number x o ≡ false → same_numbers (x ∷ rest) (all_from from (members flags)) ≡ false
other flags from x rest None is miss = ap (λ ms. same_numbers (x ∷ rest) ms) (none_left from (members flags) is)
other flags from x rest (Some q) is miss =
    ap (λ ms. same_numbers (x ∷ rest) ms) (next from q flags is).walk
    ∙ ap (λ b. b && same_numbers rest (all_from (q + 1) (members flags))) (ne_eqb x q (λ e. true≢false (sym (eq-eqb q x (sym e)) ∙ miss)))

pub misses : (flags : List Bool) (pages : List ℕ) (at from d : ℕ) (all : Bool) → at < length pages → is_number (get_or pages at d) (least_from from (members flags)) ≡ false
    → same_numbers (drop at pages) (all_from from (members flags)) ≡ all → false ≡ all
misses flags pages at from d all lt miss h =
    sym (ap (λ ps. same_numbers ps (all_from from (members flags))) (drop-cons pages at d lt)
    ∙ other flags from (get_or pages at d) (drop (suc at) pages) _ refl miss) ∙ h

-- nothing is left, or something
left : (flags : List Bool) (from : ℕ) (o : Option ℕ) → least_from from (members flags) ≡ o → same_numbers [] (all_from from (members flags)) ≡ is_none o
left flags from None is = ap (λ ms. same_numbers [] ms) (none_left from (members flags) is)
left flags from (Some q) is = ap (λ ms. same_numbers [] ms) (next from q flags is).walk

pub finishes : (flags : List Bool) (pages : List ℕ) (at from : ℕ) (all : Bool) → length pages ≤ at
    → same_numbers (drop at pages) (all_from from (members flags)) ≡ all → is_none (least_from from (members flags)) ≡ all
finishes flags pages at from all over h =
    sym (left flags from _ refl) ∙ sym (ap (λ ps. same_numbers ps (all_from from (members flags))) (drop_of_length-le pages over)) ∙ h

-- what is_none tells
pub none_told : (b : Bool) (o : Option ℕ) → not b ≡ is_some o → b ≡ is_none o
none_told true None h = refl
none_told true (Some q) h = absurd (true≢false (sym h))
none_told false None h = absurd (true≢false h)
none_told false (Some q) h = refl

pub begins : (pages : List ℕ) (flags : List Bool) → same_numbers pages (all_from 0 (members flags)) ≡ same_numbers pages (members flags)
begins pages flags = ap (λ ms. same_numbers pages ms) (all_from_start (members flags))

pub ruleset member_steps = (hits, misses, finishes, begins)
