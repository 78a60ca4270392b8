use Rattle.std.proofs.Common.{◌≡◌, ◌∙◌, subst, List}
use Rattle.dr_types.specs.declared.guest.Guest.{Guest}
use Rattle.dr_history.specs.declared.event.Event.{Event}
use Rattle.dr_turns.specs.Due.{advanced}
use Rattle.dr_machine.proofs.Advancing.{ties_advanced}
use Rattle.dr_machine.proofs.seated.SeatedLog.advance.Goals as goal

pub invariant_of-self-2 : goal.invariant_of-self-2
invariant_of-self-2 g c =
    let guest = g.N.Name.guest in
    let own = c.self.inside in
    let new = c.advance.new.log in
    let roomy : c.reserve.new.self.guest ≡ guest = c.reserve.ensures.guest ∙ c.self.invariant.guest_is in
    let past : new.past ≡ (advanced guest c.args.now own.log.past).1 =
    subst (λ (h : Guest). new.past ≡ (advanced h c.args.now own.log.past).1) roomy
    (subst (λ (xs : List Event). new.past ≡ (advanced c.reserve.new.self.guest c.args.now xs).1) c.reserve.ensures.past c.in_ok-due.ensures.past) in
    ties_advanced guest g.N.Name.rings own.slots own.log new own.seats c.args.now c.self.invariant c.recall_legal.ensures.legal (c.advance.ensures.guest ∙ roomy) past
