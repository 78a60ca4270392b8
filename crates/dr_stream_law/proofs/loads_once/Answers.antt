use Rattle.dr_stream_law.proofs.Read.{loads_once}
use Rattle.dr_stream_law.proofs.loads_once.Goals as goal

pub returns : goal.returns
returns c = loads_once
