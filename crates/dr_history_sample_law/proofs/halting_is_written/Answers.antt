use Rattle.dr_history_sample_law.proofs.Smallest.{guest_says, run_says, report_says, stream_is_long}
use Rattle.dr_history_sample_law.proofs.halting_is_written.Goals as goal

pub returns : goal.returns
returns c = record { guest = guest_says; run = run_says; report = report_says; stream = stream_is_long }
