use Rattle.dr_schedule_law.proofs.Runs.{spent_begun, spent_runs}
use Rattle.dr_schedule_law.proofs.spent.spent_rounds_run_on.Goals as goal

pub returns : goal.returns
returns c = record {
  begun = spent_begun;
  running = spent_runs;
}
