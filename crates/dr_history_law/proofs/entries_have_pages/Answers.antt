use Rattle.dr_history_law.proofs.Entered.{has_page}
use Rattle.dr_history_law.proofs.entries_have_pages.Goals as goal

pub returns : goal.returns
returns c = has_page
