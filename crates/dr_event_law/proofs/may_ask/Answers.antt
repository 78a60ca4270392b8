use Rattle.dr_event_law.proofs.Legally.{asks_legally}
use Rattle.dr_event_law.proofs.may_ask.Goals as goal

pub returns : goal.returns
returns c = asks_legally
