use Rattle.std.proofs.Common.{sym, subst}
use Rattle.dr_run.specs.declared.outcome.OutcomeEnd.{OutcomeEnd}
use Rattle.dr_run.specs.Outcomes.{StandsAs}
use Rattle.dr_run.proofs.Ending.{stands_as}
use Rattle.dr_live_run.proofs.finding.find_end.Goals as goal

pub returns-clause-stands : goal.returns-clause-stands
returns-clause-stands g c =
    let guest = g.N.Name.guest in
    let past = c.drive.new.bench.past in
    subst (λ (e : OutcomeEnd). StandsAs e guest past) (sym c.end_of-end.ensures)
    (stands_as guest past c.drive.result c.recall_kept-2.ensures.legal.0 c.drive.ensures.end)
