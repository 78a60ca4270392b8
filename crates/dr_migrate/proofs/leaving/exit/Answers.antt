use Rattle.dr_bench.specs.Bench.{machine_of}
use Rattle.dr_migrate.proofs.StillDeposited.{exit_turn_keeps_all}
use Rattle.dr_migrate.proofs.leaving.exit.Goals as goal

pub returns-clause-all_deposited : goal.returns-clause-all_deposited
returns-clause-all_deposited g c =
    exit_turn_keeps_all g.N.Name.guest c.args.v (machine_of c.args.bench.now) (machine_of c.exit.new.self) c.args.collector.now c.exit.result c.requires.all_deposited
    c.exit.ensures.turn
