use Rattle.dr_plain.proofs.Tops.{some_migrated}
use Rattle.dr_live.proofs.top.run_input.Goals as goal

pub returns-in-Ok-clause-untold : goal.returns-in-Ok-clause-untold
returns-in-Ok-clause-untold g c =
    some_migrated c.live.result.status (g.S.Source.remaining c.args.src.now) c.in-Ok.guest c.live.result.kept
    (g.O.Outlet.told c.args.out) (g.O.Outlet.told c.live.result.out) c.in-Ok.ensures.read c.live.ensures.says
