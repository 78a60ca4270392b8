use Rattle.dr_event_law.proofs.Legally.{starts_legally}
use Rattle.dr_event_law.proofs.may_start.Goals as goal

pub returns : goal.returns
returns c = starts_legally
