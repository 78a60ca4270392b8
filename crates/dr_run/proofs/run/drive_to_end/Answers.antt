use Rattle.std.proofs.Common.{sym, subst}
use Rattle.dr_run.specs.declared.outcome.OutcomeEnd.{OutcomeEnd}
use Rattle.dr_run.specs.Outcomes.{EndsAs}
use Rattle.dr_run.proofs.Ending.{ends_as, all_read}
use Rattle.dr_run.proofs.run.drive_to_end.Goals as goal

pub returns-clause-ends : goal.returns-clause-ends
returns-clause-ends g c =
    let guest = g.N.Name.guest in
    let drive = c.drive.ensures in
    subst (λ (e : OutcomeEnd). EndsAs e guest c.drive.new.bench.past) (sym c.end_of-end.ensures)
    (ends_as guest c.args.bench.now.past c.drive.new.bench.past c.drive.result c.requires.first c.recall_kept.ensures.legal.0 drive.end drive.scheduled drive.cut)

pub returns-clause-times : goal.returns-clause-times
returns-clause-times g c =
    all_read (g.C.Clock.reads c.args.clock.now) c.args.bench.now.past c.drive.new.bench.past c.requires.first c.drive.ensures.times
