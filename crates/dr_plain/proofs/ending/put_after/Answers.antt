use Rattle.std.proofs.Common.{subst}
use Rattle.dr_history.specs.Stream.{stream_of}
use Rattle.dr_run.specs.declared.outcome.OutcomeEnd.{OutcomeEnd}
use Rattle.dr_run.specs.Outcomes.{StandsAs, SendsAs}
use Rattle.dr_command_io.proofs.Cuts.{on_err}
use Rattle.dr_plain.proofs.Finishing.{cut_switched}
use Rattle.dr_plain.proofs.ending.put_after.Goals as goal

pub returns-in_err-put_switched-in-Switched-clause-cut :
    goal.returns-in_err-put_switched-in-Switched-clause-cut
returns-in_err-put_switched-in-Switched-clause-cut g c =
    let guest = g.N.Name.guest in
    let past = c.args.machine.now.past in
    let told = g.O.Outlet.told in
    on_err c.from_residual.result
    (cut_switched guest past g.N.Name.ports (told c.args.out.now) (told c.put_switched.new.out)
    (subst (λ (e : OutcomeEnd). StandsAs e guest past) c.in-Switched.is c.requires.stands)
    (subst (λ (e : OutcomeEnd). SendsAs e (stream_of guest past) g.N.Name.ports (told c.args.out.now)) c.in-Switched.is c.requires.sends)
    c.in_err-put_switched-in-Switched.ensures.cut)
