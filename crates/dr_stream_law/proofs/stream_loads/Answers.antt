use Rattle.dr_stream_law.proofs.Loads.{stream_loads}
use Rattle.dr_stream_law.proofs.stream_loads.Goals as goal

pub returns : goal.returns
returns c = stream_loads
