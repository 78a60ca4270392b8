use Rattle.dr_history_law.proofs.Copies.{answers_exactly}
use Rattle.dr_history_law.proofs.answers_exactly.Goals as goal

pub returns : goal.returns
returns c = answers_exactly
