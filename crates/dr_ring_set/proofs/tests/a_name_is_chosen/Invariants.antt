use Rattle.std.proofs.Common.{[]}
use Rattle.dr_types.specs.Ports.{silent}
use Rattle.dr_ring_set.proofs.tests.a_name_is_chosen.Given as goal

abbrev pub ghosts-through : goal.ghosts-through
ghosts-through g a = record {
  guest = record {
    version = 1;
    settings = record { ring = 8; reserve = 1; buffer = 0; pace = 1; threshold = 0; rounds = 1; quota = 0 };
    slots = [];
    scripts = [];
  };
  rings = a.set.rings;
  ports = silent;
  faults = 0;
}
