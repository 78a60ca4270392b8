use Rattle.std.proofs.Common.{rules, below_more}
use Rattle.dr_ring_set.specs.Seated.{HasAt}
use Rattle.dr_schedule_law.specs.Reaps.{AreFirstDeposited}
use Rattle.dr_live_run.proofs.finding.are_all_deposited.Goals as goal

pub loop-v-preserved : goal.loop-v-preserved
loop-v-preserved g c =
    below_more
    (λ w. HasAt c.args.collector.now w (λ x. AreFirstDeposited w x.handed c.args.bench.now.past))
    c.loop-v.v c.loop-v.invariant (c.is_deposited.ensures.deposited (search rules))
