use Rattle.dr_schedule_law.proofs.Scheduled.{scheduled_cut}
use Rattle.dr_schedule_law.proofs.schedule.schedule_is_cut_at_turn.Goals as goal

pub returns : goal.returns
returns c = scheduled_cut
