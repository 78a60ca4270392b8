use Rattle.dr_event_law.proofs.Writes.{writes_alone}
use Rattle.dr_event_law.proofs.may_write.Goals as goal

pub returns : goal.returns
returns c = writes_alone
