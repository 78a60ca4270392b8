use Rattle.dr_schedule_law.proofs.Telling.{not_reset}
use Rattle.dr_schedule_law.proofs.tells.not_reset_awaits_reset.Goals as goal

pub returns : goal.returns
returns c = not_reset
