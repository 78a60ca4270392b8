use Rattle.dr_event_law.proofs.Rounds.{asks_few}
use Rattle.dr_event_law.proofs.asks_are_few.Goals as goal

pub returns : goal.returns
returns c = asks_few
