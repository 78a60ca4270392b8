use Rattle.dr_bench.proofs.Keeping.{keeps_both}
use Rattle.dr_bench.proofs.Quiet.{op_quiet}
use Rattle.dr_bench.proofs.bench.Bench.op.Goals as goal

pub invariant_of-self : goal.invariant_of-self
invariant_of-self g c =
    keeps_both g.N.Name.guest g.N.Name.ports g.N.Name.faults c.self.inside.machine c.op.new.self c.self.inside.sender c.self.inside.failed c.self.inside.stopped c.self.invariant
    (op_quiet g.N.Name.guest c.args.v c.self.inside.machine c.op.new.self c.op.result c.op.ensures.stays c.op.ensures.appended c.op.ensures.err) c.op.ensures.over
