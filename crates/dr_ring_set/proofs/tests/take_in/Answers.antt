use Rattle.dr_ring_set.proofs.Batches.{stand_in_longer}
use Rattle.dr_ring_set.proofs.tests.take_in.Goals as goal

pub returns-clause-pushed : goal.returns-clause-pushed
returns-clause-pushed g c =
    let moved = c.learn.ensures in
    (moved.0, moved.2, stand_in_longer _ _ _ _ c.args.batch.stand moved.4.1)
