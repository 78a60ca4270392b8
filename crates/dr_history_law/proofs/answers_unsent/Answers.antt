use Rattle.dr_history_law.proofs.Answer.{answers_unsent}
use Rattle.dr_history_law.proofs.answers_unsent.Goals as goal

pub returns : goal.returns
returns c = answers_unsent
