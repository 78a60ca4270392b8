use Rattle.std.proofs.Common.{◌∙◌}
use Rattle.dr_bench.specs.Bench.{machine_of}
use Rattle.dr_migrate.proofs.StillDeposited.{op_turn_keeps_all}
use Rattle.dr_migrate.proofs.waits.op.Goals as goal

pub returns-clause-going : goal.returns-clause-going
returns-clause-going g c =
    let guest = g.N.Name.guest in
    let old = c.args.bench.now in record {
      whole = c.op.ensures.standing.failed ∙ c.requires.going.whole;
      going = c.op.ensures.standing.over ∙ c.requires.going.going;
      all_deposited = op_turn_keeps_all guest c.args.v (machine_of old) (machine_of c.op.new.self) c.args.collector.now c.op.result c.requires.going.all_deposited c.op.ensures.turn;
    }
