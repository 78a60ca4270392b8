use Rattle.dr_history_law.proofs.Answer.{answers_written}
use Rattle.dr_history_law.proofs.answers_written.Goals as goal

pub returns : goal.returns
returns c = answers_written
