use Rattle.dr_turns_law.proofs.Least.{left_is_least}
use Rattle.dr_turns_law.proofs.advances.copied_page_is_least.Goals as goal

pub returns : goal.returns
returns c = left_is_least
