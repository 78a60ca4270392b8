use Rattle.dr_event_law.proofs.Outside.{out_at_stop}
use Rattle.dr_event_law.proofs.out_after_stop.Goals as goal

pub returns : goal.returns
returns c = out_at_stop
