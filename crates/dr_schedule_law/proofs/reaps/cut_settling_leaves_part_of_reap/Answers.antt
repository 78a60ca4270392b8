use Rattle.dr_schedule_law.proofs.Settling.{settling_cut}
use Rattle.dr_schedule_law.proofs.reaps.cut_settling_leaves_part_of_reap.Goals as goal

pub returns : goal.returns
returns c = settling_cut
