use Rattle.dr_turns_law.proofs.Buffers.{pushed_ends}
use Rattle.dr_turns_law.proofs.turns.push_leaves_turns_end.Goals as goal

pub returns : goal.returns
returns c = pushed_ends
