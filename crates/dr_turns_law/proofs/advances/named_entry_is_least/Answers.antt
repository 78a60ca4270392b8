use Rattle.dr_turns_law.proofs.Least.{unreset_is_least}
use Rattle.dr_turns_law.proofs.advances.named_entry_is_least.Goals as goal

pub returns : goal.returns
returns c = unreset_is_least
