use Rattle.std.proofs.Common.{◌≡◌, take}
use Rattle.std.specs.List.{list_any}
use Rattle.dr_log.specs.Tests.{row_kicked}
use Rattle.dr_log.proofs.paces.rows_kicked.Given as goal

abbrev pub invariant-loop-row : goal.invariant-loop-row
invariant-loop-row l = l.found ≡ list_any row_kicked (take l.row-index l.rows)
