use Rattle.dr_event_law.proofs.Legally.{fills_legally}
use Rattle.dr_event_law.proofs.may_fill.Goals as goal

pub returns : goal.returns
returns c = fills_legally
