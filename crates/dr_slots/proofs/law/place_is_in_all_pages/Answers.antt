use Rattle.dr_slots.proofs.AllPages.{at_place}
use Rattle.dr_slots.proofs.law.place_is_in_all_pages.Goals as goal

pub returns : goal.returns
returns c = at_place
