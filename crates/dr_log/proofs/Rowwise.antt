-- Tests of each vCPU and each page.
use Rattle.std.proofs.Common.{◌≡◌, ℕ, Bool, List, [], ◌∷◌, map, refl, ap, sym, ◌∙◌}
use Rattle.std.specs.Prelude.{◌||◌}
use Rattle.std.specs.List.{list_any, list_all}
use Rattle.std.proofs.lemmas.List.Folds.{list_all-map}
use Rattle.dr_types.specs.declared.guest.Guest.{Guest}
use Rattle.dr_types.specs.Pages.{page_count}
use Rattle.dr_types.specs.Scripts.{vcpu_count}
use Rattle.dr_marks.specs.Marked.{is_set}
use Rattle.dr_history.specs.declared.event.Event.{Event}
use Rattle.dr_history.specs.Legality.{IsLegalSoFar}
use Rattle.dr_history.specs.Lookback.{since, before, below}
use Rattle.dr_history.specs.Kinds.{is_asked}
use Rattle.dr_history.specs.Protection.{closing}
use Rattle.dr_history.specs.Rounds.{is_reset_in}
use Rattle.dr_history.specs.Vcpus.{all_paced, some_kicked}
use Rattle.dr_history_law.proofs.Covered.{covered}
use Rattle.dr_state.specs.Rows.{table, rows_of, row_of}
use Rattle.dr_state.specs.declared.vcpus.Vcpu.{Vcpu}
use Rattle.dr_log.specs.Tests.{row_paced, row_paced_recently, row_kicked, row_covered}

any_map : {X Y : Type 0} (p : Y → Bool) (f : X → Y) (xs : List X) → list_any p (map f xs) ≡ list_any (λ x. p (f x)) xs
any_map p f [] = refl
any_map p f (x ∷ xs) = ap (λ b. p (f x) || b) (any_map p f xs)

all_rows : (p : Vcpu → Bool) (rows : List Vcpu) (n : ℕ) (past : List Event) → rows ≡ rows_of n past → list_all p rows ≡ list_all (λ v. p (row_of past v)) (below n)
unfolding rows_of
all_rows p rows n past is = ap (list_all p) is ∙ list_all-map p (row_of past) (below n)

any_rows : (p : Vcpu → Bool) (rows : List Vcpu) (n : ℕ) (past : List Event) → rows ≡ rows_of n past → list_any p rows ≡ list_any (λ v. p (row_of past v)) (below n)
unfolding rows_of
any_rows p rows n past is = ap (list_any p) is ∙ any_map p (row_of past) (below n)

pub paced : (guest : Guest) (past : List Event) (rows : List Vcpu) → rows ≡ rows_of (vcpu_count guest) past → list_all (row_paced guest.settings.pace) rows ≡ all_paced guest past past
paced guest past rows is = all_rows (row_paced guest.settings.pace) rows (vcpu_count guest) past is

pub paced_recently : (guest : Guest) (past : List Event) (rows : List Vcpu) → rows ≡ rows_of (vcpu_count guest) past → list_all (row_paced_recently guest.settings.pace) rows ≡ all_paced guest (since is_asked past) past
paced_recently guest past rows is = all_rows (row_paced_recently guest.settings.pace) rows (vcpu_count guest) past is

pub kicked_some : (guest : Guest) (past : List Event) (rows : List Vcpu) → rows ≡ rows_of (vcpu_count guest) past → list_any row_kicked rows ≡ some_kicked guest past
kicked_some guest past rows is = any_rows row_kicked rows (vcpu_count guest) past is

pub covered_all : (guest : Guest) (past : List Event) (rows : List Vcpu) → IsLegalSoFar guest past → rows ≡ rows_of (vcpu_count guest) past → list_all row_covered rows ≡ list_all (is_reset_in past) (before is_asked past)
covered_all guest past rows legal is = all_rows row_covered rows (vcpu_count guest) past is ∙ sym (covered guest past legal)

pub closing_some : (guest : Guest) (past : List Event) (flags : List Bool) (n : ℕ) → n ≡ page_count guest → flags ≡ table (λ page. closing page past) n → list_any is_set flags ≡ list_any (λ page. closing page past) (below (page_count guest))
closing_some guest past flags n size is =
    ap (list_any is_set) is ∙ any_map is_set (λ page. closing page past) (below n) ∙ ap (λ k. list_any (λ page. closing page past) (below k)) size
