use Rattle.dr_plain.proofs.Tops.{some_migrated}
use Rattle.dr_plain.proofs.plain.step_input.Goals as goal

pub returns-in-Ok-clause-untold : goal.returns-in-Ok-clause-untold
returns-in-Ok-clause-untold g c =
    some_migrated c.step.result.status (g.S.Source.remaining c.args.src.now) c.in-Ok.guest c.step.result.kept
    (g.O.Outlet.told c.args.out) (g.O.Outlet.told c.step.result.out) c.in-Ok.ensures.read c.step.ensures.says
