use Rattle.dr_history_law.proofs.Copies.{all_copied}
use Rattle.dr_history_law.proofs.copies_count.Goals as goal

pub returns : goal.returns
returns c = all_copied
