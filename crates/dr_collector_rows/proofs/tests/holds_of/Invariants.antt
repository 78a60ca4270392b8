-- The run that a row's name is about.
use Rattle.dr_types.specs.Ports.{silent}
use Rattle.dr_collector_rows.proofs.tests.holds_of.Given as goal

-- its guest and its rings, and no outlet
abbrev pub ghosts-holds : goal.ghosts-holds
ghosts-holds g a = record {
  guest = a.guest;
  rings = a.set.rings;
  ports = silent;
  faults = 0;
}
