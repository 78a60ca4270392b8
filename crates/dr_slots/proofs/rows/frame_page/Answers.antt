use Rattle.dr_slots.proofs.Within.{frame_within}
use Rattle.dr_slots.proofs.rows.frame_page.Goals as goal

pub returns-clause-within : goal.returns-clause-within
returns-clause-within c = frame_within c.args.rows.now c.args.space c.args.frame c.find_frame.result c.find_frame.ensures
