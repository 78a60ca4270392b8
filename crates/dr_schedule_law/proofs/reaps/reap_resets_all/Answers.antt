use Rattle.dr_schedule_law.proofs.Reaped.{reap_uses_none}
use Rattle.dr_schedule_law.proofs.reaps.reap_resets_all.Goals as goal

pub returns : goal.returns
returns c = reap_uses_none
