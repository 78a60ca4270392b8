use Rattle.std.proofs.Common.{refl}
use Rattle.dr_collector.proofs.tests.batches_of_one_vcpu.Goals as goal

pub new-requires-clause-power : goal.new-requires-clause-power
new-requires-clause-power g c = (2, refl)
