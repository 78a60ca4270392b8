use Rattle.dr_event_law.proofs.Legally.{copies_legally}
use Rattle.dr_event_law.proofs.may_copy.Goals as goal

pub returns : goal.returns
returns c = copies_legally
