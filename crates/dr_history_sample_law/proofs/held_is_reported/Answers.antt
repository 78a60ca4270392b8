use Rattle.dr_history_sample_law.proofs.Smallest.{held_report_says}
use Rattle.dr_history_sample_law.proofs.held_is_reported.Goals as goal

pub returns : goal.returns
returns c = held_report_says
