use Rattle.dr_collector.proofs.Pushes.{new_pushed_none}
use Rattle.dr_collector.proofs.tests.one_after_the_other.Goals as goal

pub push_some-requires-clause-few : goal.push_some-requires-clause-few
push_some-requires-clause-few g c κs within = new_pushed_none _ _ _ c.parts-rings.ensures.kernels
