use Rattle.dr_history_law.proofs.Agreement.{uncopied_owed}
use Rattle.dr_history_law.proofs.uncopied_is_owed.Goals as goal

pub returns : goal.returns
returns c = λ guest past legal page u. uncopied_owed guest past page legal u
