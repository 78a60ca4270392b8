use Rattle.std.proofs.Common.{◌≡◌, reverse, take}
use Rattle.dr_report.specs.Draft.{sheet_of}
use Rattle.dr_report.proofs.report.take_all.Given as goal

abbrev pub invariant-loop-e : goal.invariant-loop-e
invariant-loop-e l = l.draft ≡ sheet_of l.guest (reverse (take l.e-index l.events))
