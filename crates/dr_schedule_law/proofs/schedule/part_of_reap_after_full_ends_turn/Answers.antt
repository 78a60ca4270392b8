use Rattle.dr_schedule_law.proofs.Scheduled.{full_cut}
use Rattle.dr_schedule_law.proofs.schedule.part_of_reap_after_full_ends_turn.Goals as goal

pub returns : goal.returns
returns c = full_cut
