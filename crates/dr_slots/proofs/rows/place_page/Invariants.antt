use Rattle.std.proofs.Common.{◌≡◌, ◌+◌, drop}
use Rattle.dr_types.specs.Pages.{pages_of_slots}
use Rattle.dr_slots.specs.Places.{page_at_from, page_at_place}
use Rattle.dr_slots.proofs.rows.place_page.Given as goal

abbrev pub invariant-loop-row : goal.invariant-loop-row
invariant-loop-row l = record {
  left : page_at_from l.first (drop l.row-index l.rows) l.slot l.offset ≡ page_at_place l.rows l.slot l.offset;
  counted : l.first + pages_of_slots (drop l.row-index l.rows) ≡ pages_of_slots l.rows;
}
