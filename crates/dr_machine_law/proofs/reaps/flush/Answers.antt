use Rattle.std.proofs.Common.{refl, ap}
use Rattle.dr_turns.specs.Due.{some_closing}
use Rattle.dr_machine.specs.Views.{MachineView}
use Rattle.dr_machine_law.proofs.Reaping.{stays_closed}
use Rattle.dr_machine_law.proofs.reaps.flush.Goals as goal

pub returns-clause-closed : goal.returns-clause-closed
returns-clause-closed g c =
    let old = c.args.machine.now in
    stays_closed g.N.Name.guest old.past c.flush.new.self.past c.flush.result (some_closing g.N.Name.guest old.past) refl
    (λ none. ap (λ (s : MachineView). s.past) (c.flush.ensures.stays none)) c.flush.ensures.appended
