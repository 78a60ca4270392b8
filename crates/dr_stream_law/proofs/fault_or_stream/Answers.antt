use Rattle.dr_stream_law.proofs.Faults.{fault_or_stream}
use Rattle.dr_stream_law.proofs.fault_or_stream.Goals as goal

pub returns : goal.returns
returns c = fault_or_stream
