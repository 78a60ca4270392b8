use Rattle.dr_schedule_law.proofs.Scheduled.{follows_cut}
use Rattle.dr_schedule_law.proofs.schedule.whole_blocks_are_cut_at_turn.Goals as goal

pub returns : goal.returns
returns c = follows_cut
