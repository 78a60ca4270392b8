use Rattle.dr_event_law.proofs.Legally.{exits_legally}
use Rattle.dr_event_law.proofs.may_exit.Goals as goal

pub returns : goal.returns
returns c = exits_legally
