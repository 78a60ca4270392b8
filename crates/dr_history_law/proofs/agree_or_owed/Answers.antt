use Rattle.dr_history_law.proofs.Agreement.{agree_or_owed}
use Rattle.dr_history_law.proofs.agree_or_owed.Goals as goal

pub returns : goal.returns
returns c = agree_or_owed
