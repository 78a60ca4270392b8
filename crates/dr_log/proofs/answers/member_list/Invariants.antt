use Rattle.std.proofs.Common.{◌-◌, length}
use Rattle.dr_bitmap.proofs.Walks.{IsGathered}
use Rattle.dr_log.proofs.answers.member_list.Given as goal

abbrev pub invariant-loop-page : goal.invariant-loop-page
invariant-loop-page l = IsGathered l.pages l.from l.set

abbrev pub decreases-loop-page : goal.decreases-loop-page
decreases-loop-page l = length l.set - l.from
