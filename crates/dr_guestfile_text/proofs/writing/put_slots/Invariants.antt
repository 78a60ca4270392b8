use Rattle.std.proofs.Common.{◌≡◌, ◌++◌, map, take}
use Rattle.dr_types.specs.GuestText.{slot_line}
use Rattle.dr_types.specs.Lines.{lines_text}
use Rattle.dr_guestfile_text.proofs.writing.put_slots.Given as goal

abbrev pub invariant-loop-row : goal.invariant-loop-row
invariant-loop-row l = l.out ≡ l.initial.out ++ lines_text (map slot_line (take l.row-index l.rows))
