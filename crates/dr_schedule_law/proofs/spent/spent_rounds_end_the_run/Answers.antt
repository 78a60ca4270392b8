use Rattle.dr_schedule_law.proofs.Ends.{told_is_spent}
use Rattle.dr_schedule_law.proofs.spent.spent_rounds_end_the_run.Goals as goal

pub returns : goal.returns
returns c = told_is_spent
