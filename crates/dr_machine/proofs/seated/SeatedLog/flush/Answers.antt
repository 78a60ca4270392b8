use Rattle.std.proofs.Common.{◌≡◌, ap}
use Rattle.dr_history.specs.declared.event.Event.TheVariants.{Flushed}
use Rattle.dr_turns_law.proofs.Flushing.{flush_follows}
use Rattle.dr_machine.specs.Tied.{SeatedView}
use Rattle.dr_machine.proofs.Machines.{ties_aside}
use Rattle.dr_machine.proofs.seated.SeatedLog.flush.Goals as goal

pub invariant_of-self : goal.invariant_of-self
invariant_of-self g c =
    let guest = g.N.Name.guest in
    let own = c.self.inside in
    let was : own.log.past ≡ c.args.self.now.past = ap (λ (s : SeatedView). s.past) c.self.view_is in
    ties_aside guest g.N.Name.rings own.slots own.log c.flush.new.log own.seats Flushed tt c.self.invariant
    (rw (c.self.invariant.guest_is, was) c.recall_legal.ensures.legal)
    (rw was (flush_follows guest c.args.self.now.past c.recall_legal.ensures.legal c.requires.end c.requires.closing))
    c.flush.ensures.guest c.flush.ensures.past
