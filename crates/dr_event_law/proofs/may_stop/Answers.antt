use Rattle.dr_event_law.proofs.Legally.{stops_legally}
use Rattle.dr_event_law.proofs.may_stop.Goals as goal

pub returns : goal.returns
returns c = stops_legally
