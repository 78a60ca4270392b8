use Rattle.std.proofs.Common.{◌≡◌, ◌+◌, drop}
use Rattle.dr_types.specs.Pages.{page_from, page_of_frame, pages_of_slots}
use Rattle.dr_slots.proofs.rows.find_frame.Given as goal

abbrev pub invariant-loop-row : goal.invariant-loop-row
invariant-loop-row l = record {
  left : page_from l.first (drop l.row-index l.rows) l.space l.frame ≡ page_of_frame l.rows l.space l.frame;
  counted : l.first + pages_of_slots (drop l.row-index l.rows) ≡ pages_of_slots l.rows;
}
