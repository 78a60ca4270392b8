use Rattle.dr_bench.proofs.Keeping.{gives_up}
use Rattle.dr_bench.proofs.bench.Bench.give_up.Goals as goal

pub invariant_of-self : goal.invariant_of-self
invariant_of-self g c =
    gives_up g.N.Name.guest g.N.Name.ports g.N.Name.faults c.self.inside.machine c.give_up.new.self c.self.inside.sender c.self.inside.failed c.self.inside.stopped c.self.invariant c.give_up.ensures
