use Rattle.std.proofs.Common.{◌≡◌, ◌∙◌, sym, subst}
use Rattle.dr_types.specs.declared.guest.Guest.{Guest}
use Rattle.dr_turns.specs.Turns.{executed}
use Rattle.dr_machine.proofs.Machines.{ties_executed}
use Rattle.dr_machine.proofs.seated.SeatedLog.execute_alone.Goals as goal

pub invariant_of-self-2 : goal.invariant_of-self-2
invariant_of-self-2 g c =
    let guest = g.N.Name.guest in
    let own = c.self.inside in
    let new = c.execute.new.log in
    let roomy : c.make_room.new.log.guest ≡ guest = c.in_ok-make_room.ensures.guest ∙ c.self.invariant.guest_is in
    let past : new.past ≡ executed guest c.args.v own.log.past =
    rw (sym c.in_ok-make_room.ensures.past) (subst (λ (h : Guest). new.past ≡ executed h c.args.v c.make_room.new.log.past) roomy c.execute.ensures.past) in
    ties_executed guest g.N.Name.rings own.slots own.log new own.seats c.args.v c.self.invariant c.recall_legal.ensures.legal (c.execute.ensures.guest ∙ roomy) past
