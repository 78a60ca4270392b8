use Rattle.dr_history_sample_law.proofs.Sample.{switched_is_legal}
use Rattle.dr_history_sample_law.proofs.switched_is_legal.Goals as goal

pub returns : goal.returns
returns c = switched_is_legal
