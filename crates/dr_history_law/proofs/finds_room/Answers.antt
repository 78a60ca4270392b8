use Rattle.dr_history_law.proofs.Room.{finds_room}
use Rattle.dr_history_law.proofs.finds_room.Goals as goal

pub returns : goal.returns
returns c = λ guest past fits legal v lt. finds_room guest past v fits legal lt
