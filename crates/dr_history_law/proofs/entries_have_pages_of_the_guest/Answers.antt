use Rattle.dr_history_law.proofs.Entered.{page_named}
use Rattle.dr_history_law.proofs.entries_have_pages_of_the_guest.Goals as goal

pub returns : goal.returns
returns c = page_named
