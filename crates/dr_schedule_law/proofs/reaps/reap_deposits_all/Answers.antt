use Rattle.dr_schedule_law.proofs.Reaped.{reap_moves_deposits}
use Rattle.dr_schedule_law.proofs.reaps.reap_deposits_all.Goals as goal

pub returns : goal.returns
returns c = reap_moves_deposits
