use Rattle.dr_history_law.proofs.Order.{resets_follow_harvest}
use Rattle.dr_history_law.proofs.resets_follow_harvest.Goals as goal

pub returns : goal.returns
returns c = resets_follow_harvest
