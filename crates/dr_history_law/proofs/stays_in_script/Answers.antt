use Rattle.dr_history_law.proofs.Length.{stays_in_script}
use Rattle.dr_history_law.proofs.stays_in_script.Goals as goal

pub returns : goal.returns
returns c = λ guest past legal v. stays_in_script guest past v legal
