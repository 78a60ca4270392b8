use Rattle.dr_event_law.proofs.Running.{has_operation}
use Rattle.dr_event_law.proofs.operation_goes_on.Goals as goal

pub returns : goal.returns
returns c = has_operation
