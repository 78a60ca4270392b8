use Rattle.dr_history_law.proofs.Stop.{memory_stays}
use Rattle.dr_history_law.proofs.memory_stays_at_stop.Goals as goal

pub returns : goal.returns
returns c = memory_stays
