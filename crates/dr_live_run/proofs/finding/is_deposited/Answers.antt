use Rattle.std.proofs.Common.{refl}
use Rattle.dr_live_run.proofs.Reached.{first_is_number, gap_has_none}
use Rattle.dr_live_run.proofs.finding.is_deposited.Goals as goal

pub returns-in-Some-clause-exact : goal.returns-in-Some-clause-exact
returns-in-Some-clause-exact g c =
    first_is_number _ _ _ c.args.bench.now.past c.args.collector.now c.in-Some.ensures.some c.handed.ensures

pub returns-in-None-clause-exact : goal.returns-in-None-clause-exact
returns-in-None-clause-exact g c =
    gap_has_none _ c.args.bench.now.past c.args.collector.now (c.in-None.ensures.none refl)
