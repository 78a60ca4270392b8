use Rattle.std.proofs.Common.{◌+◌, length}
use Rattle.dr_bench.proofs.Keeping.{keeps_both}
use Rattle.dr_bench.proofs.Quiet.{deposit_quiet}
use Rattle.dr_bench.proofs.bench.Bench.deposit.Goals as goal

pub invariant_of-self : goal.invariant_of-self
invariant_of-self g c =
    keeps_both g.N.Name.guest g.N.Name.ports g.N.Name.faults c.self.inside.machine c.deposit.new.self c.self.inside.sender c.self.inside.failed c.self.inside.stopped c.self.invariant
    (deposit_quiet g.N.Name.guest c.args.batch.vcpu c.args.batch.first (c.args.batch.first + length c.args.batch.entries) c.self.inside.machine c.deposit.new.self c.deposit.result c.deposit.ensures.appended c.deposit.ensures.err) c.deposit.ensures.over
