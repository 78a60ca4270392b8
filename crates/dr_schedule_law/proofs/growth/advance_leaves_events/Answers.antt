use Rattle.dr_schedule_law.proofs.Advances.{advance_none}
use Rattle.dr_schedule_law.proofs.growth.advance_leaves_events.Goals as goal

pub returns : goal.returns
returns c = advance_none
