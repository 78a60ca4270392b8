use Rattle.dr_turns_law.proofs.Whole.{advance_ends}
use Rattle.dr_turns_law.proofs.advances.advance_leaves_turns_end.Goals as goal

pub returns : goal.returns
returns c = advance_ends
