use Rattle.std.proofs.Common.{◌≡◌, length}
use Rattle.dr_guestfile.specs.SlotLines.{AreInBounds, slots_from, slots_in}
use Rattle.dr_guestfile.proofs.slot_lines.slots.Given as goal

abbrev pub invariant-loop-line : goal.invariant-loop-line
invariant-loop-line l = record {
  slots : AreInBounds l.rows;
  left : slots_from l.version l.rounds l.rows l.input.lines l.input.past ≡ slots_in l.version l.rounds l.fn.input;
}

abbrev pub decreases-loop-line : goal.decreases-loop-line
decreases-loop-line l = length l.input.lines
