use Rattle.dr_seat_law.proofs.FirstEntries.{entry_exists}
use Rattle.dr_seat_law.proofs.entry_exists.Goals as goal

pub returns : goal.returns
returns c = entry_exists
