use Rattle.std.proofs.Common.{◌≡◌, ◌+◌, drop}
use Rattle.dr_types.specs.Pages.{pages_of_slots}
use Rattle.dr_slots.proofs.rows.pages_in.Given as goal

abbrev pub invariant-loop-row : goal.invariant-loop-row
invariant-loop-row l = l.count + pages_of_slots (drop l.row-index l.rows) ≡ pages_of_slots l.rows
