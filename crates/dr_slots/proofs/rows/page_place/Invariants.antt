use Rattle.std.proofs.Common.{◌≡◌, ◌<◌, drop}
use Rattle.dr_types.specs.Pages.{pages_of_slots}
use Rattle.dr_slots.specs.Places.{place_of}
use Rattle.dr_slots.proofs.rows.page_place.Given as goal

abbrev pub invariant-loop-row : goal.invariant-loop-row
invariant-loop-row l = record {
  left : place_of (drop l.row-index l.rows) l.offset ≡ place_of l.rows l.page;
  within : l.offset < pages_of_slots (drop l.row-index l.rows);
}
