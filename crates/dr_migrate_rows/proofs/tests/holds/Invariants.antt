use Rattle.dr_io.specs.Book.{empty_book, told_by}
use Rattle.dr_migrate_rows.proofs.tests.holds.Given as goal

abbrev pub ghosts-does_so : goal.ghosts-does_so
ghosts-does_so a = record { guest = a.guest; rings = a.set.rings; ports = told_by (empty_book a.fails); faults = 0 }
