use Rattle.dr_schedule_law.proofs.Ends.{spent_stays}
use Rattle.dr_schedule_law.proofs.spent.spent_rounds_stay_spent.Goals as goal

pub returns : goal.returns
returns c = spent_stays
