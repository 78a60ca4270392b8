use Rattle.dr_schedule_law.proofs.Progress.{reap_more_when_full}
use Rattle.dr_schedule_law.proofs.growth.reap_of_full_adds_events.Goals as goal

pub returns : goal.returns
returns c = reap_more_when_full
