use Rattle.dr_history_law.proofs.Stop.{no_write_follows}
use Rattle.dr_history_law.proofs.no_write_follows_stop.Goals as goal

pub returns : goal.returns
returns c = no_write_follows
