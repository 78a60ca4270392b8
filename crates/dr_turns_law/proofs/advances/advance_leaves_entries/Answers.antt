use Rattle.dr_turns_law.proofs.Whole.{advanced_is_aside}
use Rattle.dr_turns_law.proofs.advances.advance_leaves_entries.Goals as goal

pub returns : goal.returns
returns c = advanced_is_aside
