use Rattle.dr_schedule_law.proofs.Points.{full_inside}
use Rattle.dr_schedule_law.proofs.tells.awaited_full_vcpu_is_inside.Goals as goal

pub returns : goal.returns
returns c = full_inside
