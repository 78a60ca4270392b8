use Rattle.dr_event_law.proofs.Legally.{opens_legally}
use Rattle.dr_event_law.proofs.may_open.Goals as goal

pub returns : goal.returns
returns c = opens_legally
