use Rattle.dr_turns_law.proofs.Whole.{advanced_legal}
use Rattle.dr_turns_law.proofs.advances.advance_breaks_no_rule.Goals as goal

pub returns : goal.returns
returns c = advanced_legal
