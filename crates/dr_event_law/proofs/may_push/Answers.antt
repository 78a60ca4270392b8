use Rattle.dr_event_law.proofs.Legally.{pushes_legally}
use Rattle.dr_event_law.proofs.may_push.Goals as goal

pub returns : goal.returns
returns c = pushes_legally
