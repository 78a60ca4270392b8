use Rattle.dr_schedule_law.proofs.Ranges.{rests_of_one}
use Rattle.dr_schedule_law.proofs.reaps.range_of_one_rests.Goals as goal

pub returns : goal.returns
returns c = rests_of_one
