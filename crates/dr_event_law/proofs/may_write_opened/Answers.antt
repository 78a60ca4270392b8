use Rattle.dr_event_law.proofs.Writes.{writes_opened}
use Rattle.dr_event_law.proofs.may_write_opened.Goals as goal

pub returns : goal.returns
returns c = writes_opened
