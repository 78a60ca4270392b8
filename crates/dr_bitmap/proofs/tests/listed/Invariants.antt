use Rattle.std.proofs.Common.{◌-◌, length}
use Rattle.dr_bitmap.proofs.Walks.{IsGathered}
use Rattle.dr_bitmap.proofs.tests.listed.Given as goal

abbrev pub invariant-loop-member : goal.invariant-loop-member
invariant-loop-member l = IsGathered l.pages l.next l.bitmap

abbrev pub decreases-loop-member : goal.decreases-loop-member
decreases-loop-member l = length l.bitmap - l.next
