use Rattle.dr_schedule_law.proofs.Telling.{not_out}
use Rattle.dr_schedule_law.proofs.tells.not_out_awaits_exit.Goals as goal

pub returns : goal.returns
returns c = not_out
