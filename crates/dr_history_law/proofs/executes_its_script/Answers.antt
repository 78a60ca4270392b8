use Rattle.dr_history_law.proofs.Execution.{executes_its_script}
use Rattle.dr_history_law.proofs.executes_its_script.Goals as goal

pub returns : goal.returns
returns c = executes_its_script
