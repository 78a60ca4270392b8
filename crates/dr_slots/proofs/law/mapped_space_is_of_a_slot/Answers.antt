use Rattle.dr_slots.proofs.Spaces.{mapped_below}
use Rattle.dr_slots.proofs.law.mapped_space_is_of_a_slot.Goals as goal

pub returns : goal.returns
returns c = λ rows space frame bound all h. mapped_below rows 0 space frame bound all h
