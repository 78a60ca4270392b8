use Rattle.dr_stream_law.proofs.Faults.{fault_once}
use Rattle.dr_stream_law.proofs.fault_once.Goals as goal

pub returns : goal.returns
returns c = fault_once
