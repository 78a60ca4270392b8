use Rattle.dr_schedule_law.proofs.Progress.{exit_more}
use Rattle.dr_schedule_law.proofs.growth.exit_adds_events.Goals as goal

pub returns : goal.returns
returns c = exit_more
