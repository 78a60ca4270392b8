use Rattle.dr_schedule_law.proofs.Scheduled.{reap_cut}
use Rattle.dr_schedule_law.proofs.schedule.part_of_reap_ends_turn.Goals as goal

pub returns : goal.returns
returns c = reap_cut
