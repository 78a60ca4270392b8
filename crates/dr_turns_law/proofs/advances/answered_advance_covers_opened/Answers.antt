use Rattle.dr_turns_law.proofs.Whole.{answered_covers}
use Rattle.dr_turns_law.proofs.advances.answered_advance_covers_opened.Goals as goal

pub returns : goal.returns
returns c = answered_covers
