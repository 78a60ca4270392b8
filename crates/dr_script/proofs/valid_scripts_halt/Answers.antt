use Rattle.dr_script.proofs.Halts.{halts_last}
use Rattle.dr_script.proofs.valid_scripts_halt.Goals as goal

pub returns : goal.returns
returns c = halts_last
