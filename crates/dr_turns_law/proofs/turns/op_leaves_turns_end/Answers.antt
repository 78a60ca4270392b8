use Rattle.dr_turns_law.proofs.Ending.{op_ends}
use Rattle.dr_turns_law.proofs.turns.op_leaves_turns_end.Goals as goal

pub returns : goal.returns
returns c = op_ends
