use Rattle.dr_history_law.proofs.Room.{room_in_ring}
use Rattle.dr_history_law.proofs.room_in_ring.Goals as goal

pub returns : goal.returns
returns c = room_in_ring
