use Rattle.dr_turns_law.proofs.Starting.{start_ends}
use Rattle.dr_turns_law.proofs.turns.start_leaves_turns_end.Goals as goal

pub returns : goal.returns
returns c = start_ends
