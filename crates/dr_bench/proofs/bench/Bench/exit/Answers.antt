use Rattle.dr_bench.proofs.Keeping.{keeps_both}
use Rattle.dr_bench.proofs.Quiet.{exit_quiet}
use Rattle.dr_bench.proofs.bench.Bench.exit.Goals as goal

pub invariant_of-self : goal.invariant_of-self
invariant_of-self g c =
    keeps_both g.N.Name.guest g.N.Name.ports g.N.Name.faults c.self.inside.machine c.exit.new.self c.self.inside.sender c.self.inside.failed c.self.inside.stopped c.self.invariant
    (exit_quiet g.N.Name.guest c.args.v c.self.inside.machine c.exit.new.self c.exit.result c.exit.ensures.stays c.exit.ensures.appended c.exit.ensures.err) c.exit.ensures.over
