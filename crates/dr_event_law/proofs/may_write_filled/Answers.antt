use Rattle.dr_event_law.proofs.Writes.{writes_filled}
use Rattle.dr_event_law.proofs.may_write_filled.Goals as goal

pub returns : goal.returns
returns c = writes_filled
