use Rattle.dr_history_law.proofs.Outstanding.{writable_outstanding}
use Rattle.dr_history_law.proofs.writable_where_outstanding.Goals as goal

pub returns : goal.returns
returns c = writable_outstanding
