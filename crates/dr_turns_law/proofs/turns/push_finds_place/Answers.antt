use Rattle.dr_turns_law.proofs.Buffers.{finds_place}
use Rattle.dr_turns_law.proofs.turns.push_finds_place.Goals as goal

pub returns : goal.returns
returns c = finds_place
