use Rattle.dr_schedule_law.proofs.Telling.{budget_ends}
use Rattle.dr_schedule_law.proofs.tells.budget_ends_run.Goals as goal

pub returns : goal.returns
returns c = budget_ends
