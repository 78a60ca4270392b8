use Rattle.dr_schedule_law.proofs.EventBound.{events_bounded}
use Rattle.dr_schedule_law.proofs.bounds.events_are_bounded.Goals as goal

pub returns : goal.returns
returns c = events_bounded
