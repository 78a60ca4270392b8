use Rattle.dr_bench.proofs.Keeping.{keeps_both}
use Rattle.dr_bench.proofs.Quiet.{reset_quiet}
use Rattle.dr_bench.proofs.bench.Bench.reset_turn.Goals as goal

pub invariant_of-self : goal.invariant_of-self
invariant_of-self g c =
    keeps_both g.N.Name.guest g.N.Name.ports g.N.Name.faults c.self.inside.machine c.reset_turn.new.self c.self.inside.sender c.self.inside.failed c.self.inside.stopped c.self.invariant
    (reset_quiet g.N.Name.guest c.args.v c.self.inside.machine c.reset_turn.new.self c.reset_turn.result c.reset_turn.ensures.stays c.reset_turn.ensures.appended c.reset_turn.ensures.err) c.reset_turn.ensures.over
