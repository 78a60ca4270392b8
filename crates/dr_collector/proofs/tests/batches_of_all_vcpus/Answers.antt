use Rattle.std.proofs.Common.{refl}
use Rattle.dr_collector.proofs.tests.batches_of_all_vcpus.Goals as goal

pub new-requires-clause-power : goal.new-requires-clause-power
new-requires-clause-power g c = (3, refl)
