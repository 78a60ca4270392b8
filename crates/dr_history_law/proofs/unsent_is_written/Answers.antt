use Rattle.dr_history_law.proofs.Unsent.{unsent_is_written}
use Rattle.dr_history_law.proofs.unsent_is_written.Goals as goal

pub returns : goal.returns
returns c = unsent_is_written
