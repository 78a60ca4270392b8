use Rattle.std.proofs.Common.{◌≡◌, ◌∙◌, ap}
use Rattle.dr_history.specs.declared.event.Event.TheVariants.{Exited}
use Rattle.dr_event_law.specs.May.{MayFollow, AtRest}
use Rattle.dr_turns.specs.Buffers.{all_pushed}
use Rattle.dr_turns.specs.Turns.{exit_reason}
use Rattle.dr_turns_law.proofs.Leaving.{inside_rests, exit_ends}
use Rattle.dr_machine.specs.Tied.{SeatedView}
use Rattle.dr_machine.proofs.Leaving.{leaves_here}
use Rattle.dr_machine.proofs.Machines.{ties_aside}
use Rattle.dr_machine.proofs.seated.SeatedLog.leave.Goals as goal

pub push_buffer-requires-clause-rest : goal.push_buffer-requires-clause-rest
push_buffer-requires-clause-rest g c κs within =
    inside_rests g.N.Name.guest c.args.self.now.past c.args.v c.requires.vcpu c.recall_legal.ensures.legal c.requires.end c.requires.inside

pub invariant_of-self : goal.invariant_of-self
invariant_of-self g c =
    let guest = g.N.Name.guest in
    let own = c.self.inside in
    let past = c.args.self.now.past in
    let v = c.args.v in
    let why = c.exit_reason-why.result in
    let is : own.log.past ≡ all_pushed v past = ap (λ (s : SeatedView). s.past) c.self.view_is ∙ c.push_buffer.ensures.past in
    let reason : why ≡ exit_reason guest v own.log.past = rw (← c.self.invariant.guest_is) c.exit_reason-why.ensures in
    let follows : MayFollow guest own.log.past (Exited v why) = leaves_here guest past own.log.past v why c.requires.vcpu c.recall_legal.ensures.legal c.requires.end c.requires.inside is reason in
    ties_aside guest g.N.Name.rings own.slots own.log c.take.new.self own.seats (Exited v why) tt c.self.invariant c.recall_legal-2.ensures.legal follows c.take.ensures.guest c.take.ensures.past

pub returns-clause-end : goal.returns-clause-end
returns-clause-end g c =
    let guest = g.N.Name.guest in
    let past = c.args.self.now.past in
    let is : c.self.inside.log.past ≡ all_pushed c.args.v past = ap (λ (s : SeatedView). s.past) c.self.view_is ∙ c.push_buffer.ensures.past in
    let rest : AtRest guest past = inside_rests guest past c.args.v c.requires.vcpu c.recall_legal.ensures.legal c.requires.end c.requires.inside in
    rw (c.take.ensures.past, is) (exit_ends guest past c.args.v c.exit_reason-why.result rest c.requires.end)
