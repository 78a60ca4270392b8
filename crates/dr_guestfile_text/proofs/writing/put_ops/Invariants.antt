use Rattle.std.proofs.Common.{◌≡◌, ◌++◌, map, take}
use Rattle.dr_types.specs.GuestText.{op_line}
use Rattle.dr_types.specs.Lines.{lines_text}
use Rattle.dr_guestfile_text.proofs.writing.put_ops.Given as goal

abbrev pub invariant-loop-op : goal.invariant-loop-op
invariant-loop-op l = l.out ≡ l.initial.out ++ lines_text (map op_line (take l.op-index l.ops))
