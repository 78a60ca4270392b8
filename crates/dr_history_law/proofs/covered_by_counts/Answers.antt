use Rattle.dr_history_law.proofs.Covered.{covered}
use Rattle.dr_history_law.proofs.covered_by_counts.Goals as goal

pub returns : goal.returns
returns c = covered
