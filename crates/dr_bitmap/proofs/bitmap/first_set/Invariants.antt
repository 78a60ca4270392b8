use Rattle.std.proofs.Common.{◌≡◌}
use Rattle.dr_bitmap.specs.Members.{members, least_from}
use Rattle.dr_bitmap.proofs.bitmap.first_set.Given as goal

abbrev pub invariant-loop-at : goal.invariant-loop-at
invariant-loop-at l = least_from l.at (members l.flags) ≡ least_from l.from (members l.flags)
