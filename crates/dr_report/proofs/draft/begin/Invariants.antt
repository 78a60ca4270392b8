use Rattle.std.proofs.Common.{◌≡◌, ◌++◌, map, take, drop}
use Rattle.dr_report.specs.Tallies.{begun}
use Rattle.dr_report.proofs.draft.begin.Given as goal

abbrev pub invariant-loop-tally : goal.invariant-loop-tally
invariant-loop-tally l = l.tallies ≡ map begun (take l.tally-index l.fn.tallies) ++ drop l.tally-index l.fn.tallies
