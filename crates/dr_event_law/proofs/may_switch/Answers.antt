use Rattle.dr_event_law.proofs.Legally.{switches_legally}
use Rattle.dr_event_law.proofs.may_switch.Goals as goal

pub returns : goal.returns
returns c = switches_legally
