use Rattle.dr_schedule_law.proofs.KeptDeposits.{exit_keeps_deposits}
use Rattle.dr_schedule_law.proofs.reaps.exit_deposits_nothing.Goals as goal

pub returns : goal.returns
returns c = exit_keeps_deposits
