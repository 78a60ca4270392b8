use Rattle.dr_report.proofs.Taking.{takes_next, takes_on}
use Rattle.dr_report.proofs.report.take_all.Goals as goal

pub take-requires : goal.take-requires
take-requires c =
    takes_next c.args.guest.now c.args.events.now c.loop-e.e-index c.e-item.result c.e-item.result c.loop-e.draft
    c.requires.valid c.requires.legal c.requires.few c.loop-e-test.true c.e-item.is c.loop-e.invariant

pub loop-e-preserved : goal.loop-e-preserved
loop-e-preserved c =
    takes_on c.args.guest.now c.args.events.now c.loop-e.e-index c.e-item.result c.e-item.result c.loop-e.draft c.take.new.self
    c.requires.legal c.loop-e-test.true c.e-item.is c.loop-e.invariant c.in_ok-take.ensures
