use Rattle.dr_schedule_law.proofs.KeptDeposits.{advance_keeps_deposits}
use Rattle.dr_schedule_law.proofs.reaps.advance_deposits_nothing.Goals as goal

pub returns : goal.returns
returns c = advance_keeps_deposits
