use Rattle.dr_bench.proofs.Keeping.{keeps_both}
use Rattle.dr_bench.proofs.Quiet.{flush_quiet}
use Rattle.dr_bench.proofs.bench.Bench.flush.Goals as goal

pub invariant_of-self : goal.invariant_of-self
invariant_of-self g c =
    keeps_both g.N.Name.guest g.N.Name.ports g.N.Name.faults c.self.inside.machine c.flush.new.self c.self.inside.sender c.self.inside.failed c.self.inside.stopped c.self.invariant
    (flush_quiet g.N.Name.guest c.self.inside.machine c.flush.new.self c.flush.result c.flush.ensures.stays c.flush.ensures.appended c.flush.ensures.err) c.flush.ensures.over
