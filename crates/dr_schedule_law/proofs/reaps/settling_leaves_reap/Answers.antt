use Rattle.dr_schedule_law.proofs.Settling.{settles_reaps}
use Rattle.dr_schedule_law.proofs.reaps.settling_leaves_reap.Goals as goal

pub returns : goal.returns
returns c = settles_reaps
