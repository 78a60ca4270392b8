use Rattle.dr_machine.proofs.Machines.{ties_new}
use Rattle.dr_machine.proofs.seated.SeatedLog.new.Goals as goal

pub invariant_of-result : goal.invariant_of-result
invariant_of-result g c =
    ties_new g.N.Name.guest c.args.guest.now g.N.Name.rings c.in_ok-slots.slots c.in_ok-log.log c.args.seats c.requires.guest c.requires.rings c.in_ok-slots.ensures c.in_ok-log.ensures.guest c.in_ok-log.ensures.past c.requires.seats
