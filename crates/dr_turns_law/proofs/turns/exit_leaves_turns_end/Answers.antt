use Rattle.dr_turns_law.proofs.Leaving.{exit_ends}
use Rattle.dr_turns_law.proofs.turns.exit_leaves_turns_end.Goals as goal

pub returns : goal.returns
returns c = exit_ends
