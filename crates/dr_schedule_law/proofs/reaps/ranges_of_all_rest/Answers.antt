use Rattle.dr_schedule_law.proofs.Ranges.{rests_of_all}
use Rattle.dr_schedule_law.proofs.reaps.ranges_of_all_rest.Goals as goal

pub returns : goal.returns
returns c = rests_of_all
