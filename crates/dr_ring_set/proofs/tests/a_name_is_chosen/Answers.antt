use Rattle.std.proofs.Common.{refl}
use Rattle.dr_ring_set.proofs.tests.a_name_is_chosen.Goals as goal

pub new-requires-clause-power : goal.new-requires-clause-power
new-requires-clause-power g c = (3, refl)
