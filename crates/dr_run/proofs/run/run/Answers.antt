use Rattle.std.proofs.Common.{List, All, sym, subst}
use Rattle.dr_history.specs.declared.event.Event.{Event}
use Rattle.dr_history.specs.Times.{times}
use Rattle.dr_run.proofs.run.run.Goals as goal

pub returns-clause-times : goal.returns-clause-times
returns-clause-times g c =
    subst (λ (past : List Event). All (g.C.Clock.reads c.args.clock.now) (times past)) (sym c.into_parts-machine.ensures.past) c.drive_to_end-end.ensures.times
