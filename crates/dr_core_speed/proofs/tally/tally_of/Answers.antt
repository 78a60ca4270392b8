use Rattle.dr_core_speed.proofs.Counting.{takes_next, takes_on, last_is}
use Rattle.dr_core_speed.proofs.tally.tally_of.Goals as goal

pub count-requires : goal.count-requires
count-requires c =
    takes_next c.args.events.now c.loop-e.e-index c.loop-e.tally c.requires c.loop-e-test.true c.loop-e.invariant.0

pub loop-e-preserved : goal.loop-e-preserved
loop-e-preserved c = (
  takes_on c.args.events.now c.loop-e.e-index c.e-item.result c.e-item.result c.loop-e.last c.loop-e.tally c.count.new.self
      c.loop-e-test.true c.e-item.is c.loop-e.invariant.0 c.loop-e.invariant.1 c.count.ensures,
  last_is c.args.events.now c.loop-e.e-index c.e-item.result c.e-item.result c.deposit_of-last.result
      c.loop-e-test.true c.e-item.is c.deposit_of-last.ensures,
)
