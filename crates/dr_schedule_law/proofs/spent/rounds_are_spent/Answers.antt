use Rattle.dr_schedule_law.proofs.Told.{spent_is_told}
use Rattle.dr_schedule_law.proofs.spent.rounds_are_spent.Goals as goal

pub returns : goal.returns
returns c = spent_is_told
