use Rattle.dr_event_law.proofs.Legally.{resets_legally}
use Rattle.dr_event_law.proofs.may_reset.Goals as goal

pub returns : goal.returns
returns c = resets_legally
