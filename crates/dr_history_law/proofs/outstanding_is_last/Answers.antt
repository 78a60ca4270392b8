use Rattle.dr_history_law.proofs.LastOpened.{last_for_page}
use Rattle.dr_history_law.proofs.outstanding_is_last.Goals as goal

pub returns : goal.returns
returns c = last_for_page
