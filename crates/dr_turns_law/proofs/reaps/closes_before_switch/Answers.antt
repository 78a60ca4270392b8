use Rattle.dr_turns_law.proofs.Flushing.{closing_before}
use Rattle.dr_turns_law.proofs.reaps.closes_before_switch.Goals as goal

pub returns : goal.returns
returns c = closing_before
