use Rattle.std.proofs.Common.{◌≡◌, None, Some, ap, subst, Option, true}
use Rattle.dr_types.specs.declared.entry.Entry.{Entry}
use Rattle.dr_ring_set.specs.Seated.{MovesAt, IsReset}
use Rattle.dr_turns_law.specs.Deposits.{next_deposited}
use Rattle.dr_machine.specs.Tied.{SeatedView}
use Rattle.dr_machine.proofs.Depositing.{next_is_harvested, ties_reset}
use Rattle.dr_machine.proofs.seated.SeatedLog.reset_next.Goals as goal

pub unreachable-requires : goal.unreachable-requires
unreachable-requires g c =
    let own = c.self.inside in
    let moves : MovesAt own.seats c.reset_next.new.self c.args.v (λ s t. IsReset c.args.rings.now.size s t None) =
    subst (λ (o : Option Entry). MovesAt own.seats c.reset_next.new.self c.args.v (λ s t. IsReset c.args.rings.now.size s t o)) c.in-None.is c.reset_next.ensures in
    let next : next_deposited c.args.v own.log.past ≡ true = rw (ap (λ (s : SeatedView). s.past) c.self.view_is) c.requires.deposited in
    next_is_harvested g.N.Name.guest g.N.Name.rings own.slots own.log own.seats c.reset_next.new.self c.args.v c.args.rings.now.size c.self.invariant next moves

pub invariant_of-self : goal.invariant_of-self
invariant_of-self g c =
    let own = c.self.inside in
    let e = c.in-Some.field-0 in
    let moves : MovesAt own.seats c.reset_next.new.self c.args.v (λ s t. IsReset c.args.rings.now.size s t (Some e)) =
    subst (λ (o : Option Entry). MovesAt own.seats c.reset_next.new.self c.args.v (λ s t. IsReset c.args.rings.now.size s t o)) c.in-Some.is c.reset_next.ensures in
    ties_reset g.N.Name.guest g.N.Name.rings own.slots own.log c.take.new.self own.seats c.reset_next.new.self c.args.v _ c.args.rings.now.size e c.self.invariant moves c.take.ensures.guest c.take.ensures.past
