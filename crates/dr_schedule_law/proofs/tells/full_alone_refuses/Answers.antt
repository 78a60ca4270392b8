use Rattle.dr_schedule_law.proofs.Telling.{refused_when_full}
use Rattle.dr_schedule_law.proofs.tells.full_alone_refuses.Goals as goal

pub returns : goal.returns
returns c = refused_when_full
