use Rattle.std.proofs.Common.{◌≡◌, ◌++◌, take}
use Rattle.std.specs.List.{flat_map}
use Rattle.dr_types.specs.GuestText.{item_lines}
use Rattle.dr_types.specs.Lines.{lines_text}
use Rattle.dr_guestfile_text.proofs.writing.put_items.Given as goal

abbrev pub invariant-loop-item : goal.invariant-loop-item
invariant-loop-item l = l.out ≡ l.initial.out ++ lines_text (flat_map item_lines (take l.item-index l.items))
