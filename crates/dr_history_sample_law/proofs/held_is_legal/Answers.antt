use Rattle.dr_history_sample_law.proofs.Sample.{held_is_legal}
use Rattle.dr_history_sample_law.proofs.held_is_legal.Goals as goal

pub returns : goal.returns
returns c = held_is_legal
