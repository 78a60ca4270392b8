use Rattle.std.proofs.Common.{◌≡◌, take}
use Rattle.dr_history.specs.Memory.{overwritten}
use Rattle.dr_memory.proofs.page_bytes.overwrite.Given as goal

abbrev pub invariant-loop-i : goal.invariant-loop-i
invariant-loop-i l = l.page ≡ overwritten l.initial.page l.at (take l.i l.bytes)
