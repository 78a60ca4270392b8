use Rattle.std.proofs.Common.{◌≡◌, [], map}
use Rattle.dr_history.specs.Lookback.{below}
use Rattle.dr_report.specs.Tallies.{tally_of}
use Rattle.dr_report.proofs.report.new_tallies.Given as goal

abbrev pub invariant-loop-v : goal.invariant-loop-v
invariant-loop-v l = l.tallies.items ≡ map (tally_of []) (below l.v)
