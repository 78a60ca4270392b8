use Rattle.dr_event_law.proofs.Legally.{flushes_legally}
use Rattle.dr_event_law.proofs.may_flush.Goals as goal

pub returns : goal.returns
returns c = flushes_legally
