use Rattle.dr_schedule_law.proofs.Telling.{not_flushed}
use Rattle.dr_schedule_law.proofs.tells.not_flushed_awaits_flush.Goals as goal

pub returns : goal.returns
returns c = not_flushed
