use Rattle.dr_history_sample_law.proofs.Smallest.{halting_is_legal}
use Rattle.dr_history_sample_law.proofs.halting_is_legal.Goals as goal

pub returns : goal.returns
returns c = halting_is_legal
