use Rattle.dr_schedule_law.proofs.Cutting.{full_more}
use Rattle.dr_schedule_law.proofs.growth.reap_after_full_adds_events.Goals as goal

pub returns : goal.returns
returns c = full_more
