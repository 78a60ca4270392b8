use Rattle.dr_schedule_law.proofs.Reaped.{reap_pushes}
use Rattle.dr_schedule_law.proofs.reaps.reap_pushes_nothing.Goals as goal

pub returns : goal.returns
returns c = reap_pushes
