use Rattle.std.proofs.Common.{subst, sym}
use Rattle.dr_types.specs.Validity.{IsValid}
use Rattle.dr_history.specs.Legality.{IsLegalSoFar}
use Rattle.dr_history_sample_law.specs.Smallest.{halting_guest}
use Rattle.dr_history_sample_law.proofs.Smallest.{halting_is_legal}
use Rattle.dr_report.proofs.Smallest.{halting_is_valid}
use Rattle.dr_report.proofs.tests.the_smallest_run_is_reported.Goals as goal

pub report_text-requires : goal.report_text-requires
report_text-requires c d = record {
  valid = subst IsValid (sym d.in_ok-guest.ensures) halting_is_valid;
  legal = subst (λ guest. IsLegalSoFar guest d.in_ok-history.history.past) (sym d.in_ok-guest.ensures)
      (subst (IsLegalSoFar halting_guest) (sym d.in_ok-history.ensures) halting_is_legal.0);
}
