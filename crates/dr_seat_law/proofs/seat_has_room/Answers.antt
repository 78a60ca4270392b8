use Rattle.dr_seat_law.proofs.Seating.{seat_has_room}
use Rattle.dr_seat_law.proofs.seat_has_room.Goals as goal

pub returns : goal.returns
returns c = seat_has_room
