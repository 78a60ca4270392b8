use Rattle.dr_top.proofs.Running.{run_no_load, run_no_step, run_puts_none}
use Rattle.dr_top.proofs.command.Goals as goal

pub returns-in-None-clause-takes : goal.returns-in-None-clause-takes
returns-in-None-clause-takes g c =
    let run = c.plain_main-status.ensures.run.0 c.in-None.is in
    rw (c.plain_main-status.ensures.unread (run_no_step _ run) (run_no_load _ run)) at c.run.ensures.takes

pub returns-in-None-clause-untold : goal.returns-in-None-clause-untold
returns-in-None-clause-untold g c load done =
    let run = c.plain_main-status.ensures.run.0 c.in-None.is in
    let none = c.plain_main-status.ensures.unkept (run_no_step _ run) in
    rw (c.plain_main-status.ensures.unput (run_puts_none _ _ _ run none)) at (c.run.ensures.untold load done)
