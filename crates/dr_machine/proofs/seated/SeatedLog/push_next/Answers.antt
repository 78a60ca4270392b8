use Rattle.std.proofs.Common.{ap}
use Rattle.dr_machine.specs.Tied.{SeatedView}
use Rattle.dr_machine.proofs.Pushing.{seat_has_place, seat_has_count, ties_push}
use Rattle.dr_machine.proofs.seated.SeatedLog.push_next.Goals as goal

pub push-requires-clause-room : goal.push-requires-clause-room
push-requires-clause-room g c κs within =
    let own = c.self.inside in
    seat_has_place g.N.Name.guest g.N.Name.rings own.slots own.log own.seats c.args.v c.args.rings.now.size c.self.invariant c.recall_legal.ensures.legal c.recall_sizes.ensures c.requires.vcpu
    (rw (ap (λ (s : SeatedView). s.past) c.self.view_is) c.requires.place)

pub push-requires-clause-count : goal.push-requires-clause-count
push-requires-clause-count g c κs within =
    let own = c.self.inside in
    seat_has_count g.N.Name.guest g.N.Name.rings own.slots own.log own.seats c.args.v c.self.invariant c.recall_legal.ensures.legal c.recall_legal.ensures.valid

pub invariant_of-self : goal.invariant_of-self
invariant_of-self g c =
    let own = c.self.inside in
    ties_push g.N.Name.guest g.N.Name.rings own.slots own.log c.take.new.self own.seats c.push.new.self c.args.v c.pushes-k.result c.entry-entry.result c.self.invariant c.pushes-k.ensures c.entry-entry.ensures c.push.ensures c.take.ensures.guest c.take.ensures.past
