use Rattle.dr_schedule_law.proofs.Extending.{reap_extends}
use Rattle.dr_schedule_law.proofs.reaps.reap_extends_events.Goals as goal

pub returns : goal.returns
returns c = reap_extends
