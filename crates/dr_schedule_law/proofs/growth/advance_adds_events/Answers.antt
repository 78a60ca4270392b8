use Rattle.dr_schedule_law.proofs.Advances.{advance_more}
use Rattle.dr_schedule_law.proofs.growth.advance_adds_events.Goals as goal

pub returns : goal.returns
returns c = advance_more
