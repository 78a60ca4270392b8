use Rattle.std.proofs.Common.{[]}
use Rattle.dr_types.specs.Ports.{silent}
use Rattle.dr_collector.proofs.tests.batches_of_all_vcpus.Given as goal

abbrev pub ghosts-all_at_once : goal.ghosts-all_at_once
ghosts-all_at_once g a = record {
  guest = record {
    version = 1;
    settings = record { ring = 8; reserve = 1; buffer = 0; pace = 1; threshold = 0; rounds = 1; quota = 0 };
    slots = [];
    scripts = [];
  };
  rings = a.set.rings;
  ports = silent;
  faults = 0;
}
