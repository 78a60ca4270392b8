use Rattle.dr_event_law.proofs.Legally.{deposits_legally}
use Rattle.dr_event_law.proofs.may_deposit.Goals as goal

pub returns : goal.returns
returns c = deposits_legally
