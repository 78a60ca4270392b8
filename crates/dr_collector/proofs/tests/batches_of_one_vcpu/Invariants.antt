use Rattle.std.proofs.Common.{[]}
use Rattle.dr_types.specs.Ports.{silent}
use Rattle.dr_collector.proofs.tests.batches_of_one_vcpu.Given as goal

abbrev pub ghosts-one_after_the_other : goal.ghosts-one_after_the_other
ghosts-one_after_the_other g a = record {
  guest = record {
    version = 1;
    settings = record { ring = 8; reserve = 1; buffer = 0; pace = 1; threshold = 0; rounds = 1; quota = 0 };
    slots = [];
    scripts = [];
  };
  rings = a.set.rings;
  ports = silent;
  faults = 0;
}
