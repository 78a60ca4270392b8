use Rattle.dr_history_law.proofs.Named.{next_within}
use Rattle.dr_history_law.proofs.answered_pages_exist.Goals as goal

pub returns : goal.returns
returns c = next_within
