use Rattle.dr_event_law.proofs.Legally.{throttles_legally}
use Rattle.dr_event_law.proofs.may_throttle.Goals as goal

pub returns : goal.returns
returns c = throttles_legally
