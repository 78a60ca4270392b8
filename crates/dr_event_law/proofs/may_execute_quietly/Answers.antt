use Rattle.dr_event_law.proofs.Operations.{op_quiet}
use Rattle.dr_event_law.proofs.may_execute_quietly.Goals as goal

pub returns : goal.returns
returns c = op_quiet
