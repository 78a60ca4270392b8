use Rattle.std.proofs.Common.{arith}
use Rattle.dr_report.specs.Tallies.{begun}
use Rattle.dr_report.proofs.Tables.{mapped_more}
use Rattle.dr_report.proofs.draft.begin.Goals as goal

pub loop-tally-preserved : goal.loop-tally-preserved
loop-tally-preserved c = mapped_more begun c.args.tallies.now c.loop-tally.tallies c.loop-tally.tally-index _ c.loop-tally.invariant (omega arith)
