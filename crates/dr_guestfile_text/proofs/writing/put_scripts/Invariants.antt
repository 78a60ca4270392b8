use Rattle.std.proofs.Common.{◌≡◌, ◌++◌, take}
use Rattle.std.specs.List.{flat_map}
use Rattle.dr_types.specs.GuestText.{script_lines}
use Rattle.dr_types.specs.Lines.{lines_text}
use Rattle.dr_guestfile_text.proofs.writing.put_scripts.Given as goal

abbrev pub invariant-loop-script : goal.invariant-loop-script
invariant-loop-script l = l.out ≡ l.initial.out ++ lines_text (flat_map script_lines (take l.script-index l.scripts))
