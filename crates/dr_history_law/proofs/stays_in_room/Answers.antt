use Rattle.dr_history_law.proofs.Room.{stays_in_room}
use Rattle.dr_history_law.proofs.stays_in_room.Goals as goal

pub returns : goal.returns
returns c = λ guest past legal v z. stays_in_room guest past v legal z
