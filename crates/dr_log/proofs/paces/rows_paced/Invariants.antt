use Rattle.std.proofs.Common.{◌≡◌, take}
use Rattle.std.specs.List.{list_all}
use Rattle.dr_log.specs.Tests.{row_paced}
use Rattle.dr_log.proofs.paces.rows_paced.Given as goal

abbrev pub invariant-loop-row : goal.invariant-loop-row
invariant-loop-row l = l.all ≡ list_all (row_paced l.pace) (take l.row-index l.rows)
