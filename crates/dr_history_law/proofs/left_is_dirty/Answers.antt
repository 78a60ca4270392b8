use Rattle.dr_history_law.proofs.Switch.{left_is_dirty}
use Rattle.dr_history_law.proofs.left_is_dirty.Goals as goal

pub returns : goal.returns
returns c = λ guest past legal page h. left_is_dirty guest past page legal h
