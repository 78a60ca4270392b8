-- The sheet of a legal history, finished, is its report.
use Rattle.std.proofs.Common.{◌≡◌, ℕ, List, ◌++◌, map, ap, sym, ◌∙◌, append_assoc}
use Rattle.std.specs.Prelude.{slice_get}
use Rattle.std.specs.List.{flat_map, list_any}
use Rattle.dr_types.specs.declared.guest.Guest.{Guest}
use Rattle.dr_types.specs.Scripts.{vcpu_count}
use Rattle.dr_history.specs.declared.event.Event.{Event}
use Rattle.dr_history.specs.Lookback.{below}
use Rattle.dr_history.specs.Kinds.{is_switched}
use Rattle.dr_history.specs.Legality.{IsLegalSoFar}
use Rattle.dr_history.specs.Report.{guest_line, vcpu_text, ending_line, report_of}
use Rattle.dr_report.specs.Tallies.{tally_of}
use Rattle.dr_report.specs.Answers.{last_answer, answer_text}
use Rattle.dr_report.specs.Draft.{sheet_of, finished, closed_answers, vcpu_share, vcpu_lines, ending}
use Rattle.dr_report.proofs.Tables.{length_table, table_get, same_lines}
use Rattle.dr_report.proofs.Rounds.{rounds_kept}

vcpus_of : (past : List Event) (n : ℕ) → vcpu_lines (map (tally_of past) (below n)) ≡ flat_map (vcpu_text past) (below n)
vcpus_of past n =
    ap (λ k. flat_map (λ v. vcpu_share v (slice_get (map (tally_of past) (below n)) v)) (below k)) (length_table (tally_of past) n)
    ∙ same_lines (λ v. vcpu_share v (slice_get (map (tally_of past) (below n)) v)) (vcpu_text past) n
    (λ v l. ap (vcpu_share v) (table_get (tally_of past) n v l))

-- the finished sheet is the report
pub finished_is_report : (guest : Guest) (past : List Event) → IsLegalSoFar guest past → finished (sheet_of guest past) ≡ report_of guest past
finished_is_report guest past legal =
    let closed : List ℕ = closed_answers (vcpu_count guest) past in
    let last : List ℕ = answer_text (map (tally_of past) (below (vcpu_count guest))) (last_answer past) in
    ap (λ lines. guest_line guest ++ closed ++ last ++ lines ++ ending (list_any is_switched past)) (vcpus_of past (vcpu_count guest))
    ∙ ap (λ first. first ++ flat_map (vcpu_text past) (below (vcpu_count guest)) ++ ending_line past)
    (append_assoc (guest_line guest) closed last ∙ ap (λ rounds. guest_line guest ++ rounds) (sym (rounds_kept guest past legal)))
