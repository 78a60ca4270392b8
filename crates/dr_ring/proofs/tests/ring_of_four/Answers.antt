use Rattle.std.proofs.Common.{refl}
use Rattle.dr_ring.proofs.tests.ring_of_four.Goals as goal

pub new-requires-clause-power : goal.new-requires-clause-power
new-requires-clause-power c = (2, refl)
