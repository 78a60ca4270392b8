use Rattle.dr_history_law.proofs.Answer.{unsent_is_owed}
use Rattle.dr_history_law.proofs.unsent_is_owed.Goals as goal

pub returns : goal.returns
returns c = unsent_is_owed
