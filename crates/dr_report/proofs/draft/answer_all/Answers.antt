use Rattle.std.proofs.Common.{arith}
use Rattle.dr_report.specs.Tallies.{answered}
use Rattle.dr_report.proofs.Tables.{mapped_more}
use Rattle.dr_report.proofs.draft.answer_all.Goals as goal

pub loop-tally-preserved : goal.loop-tally-preserved
loop-tally-preserved c =
    rw c.answer.ensures (mapped_more (answered c.args.span) c.args.tallies.now c.loop-tally.tallies c.loop-tally.tally-index _ c.loop-tally.invariant (omega arith))
