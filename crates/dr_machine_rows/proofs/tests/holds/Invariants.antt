use Rattle.dr_types.specs.Ports.{silent}
use Rattle.dr_machine_rows.proofs.tests.holds.Given as goal

abbrev pub ghosts-answer_so : goal.ghosts-answer_so
ghosts-answer_so a = record { guest = a.guest; rings = a.set.rings; ports = silent; faults = 0 }
