use Rattle.dr_event_law.proofs.Legally.{runs_legally}
use Rattle.dr_event_law.proofs.may_execute.Goals as goal

pub returns : goal.returns
returns c = runs_legally
