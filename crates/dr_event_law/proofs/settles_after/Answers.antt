use Rattle.dr_event_law.proofs.Rest.{settles}
use Rattle.dr_event_law.proofs.settles_after.Goals as goal

pub returns : goal.returns
returns c = settles
