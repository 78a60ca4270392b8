use Rattle.dr_turns_law.proofs.Found.{first_is_least}
use Rattle.dr_turns_law.proofs.turns.search_finds_least.Goals as goal

pub returns : goal.returns
returns c = first_is_least
