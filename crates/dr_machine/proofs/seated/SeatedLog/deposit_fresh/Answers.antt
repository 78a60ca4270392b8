use Rattle.std.proofs.Common.{◌≡◌, ◌+◌, ◌∙◌, ◌∷◌, ap, ℕ, length}
use Rattle.dr_history.specs.declared.event.Event.TheVariants.{Deposited}
use Rattle.dr_machine.specs.Tied.{SeatedView}
use Rattle.dr_machine.proofs.Depositing.{deposit_fits, ties_deposit}
use Rattle.dr_machine.proofs.seated.SeatedLog.deposit_fresh.Goals as goal

pub take-requires-clause-follows : goal.take-requires-clause-follows
take-requires-clause-follows g c =
    let own = c.self.inside in
    let b = c.args.batch in
    let was : own.log.past ≡ c.args.self.now.past = ap (λ (s : SeatedView). s.past) c.self.view_is in
    rw (c.len.ensures, c.self.invariant.guest_is)
    (deposit_fits g.N.Name.guest g.N.Name.rings own.slots own.log own.seats c.learn.new.self b.vcpu b.first b.entries b.note.entries b.note.ring c.self.invariant c.learn.ensures b.stand c.requires.some b.of_ring (rw was c.recall_legal.ensures.legal) (rw was c.requires.end) (rw was c.requires.fresh)).0

pub invariant_of-self : goal.invariant_of-self
invariant_of-self g c =
    let own = c.self.inside in
    let b = c.args.batch in
    let past : c.take.new.self.past ≡ Deposited b.vcpu b.first (b.first + length b.entries) ∷ own.log.past = c.take.ensures.past ∙ ap (λ (n : ℕ). Deposited b.vcpu b.first (b.first + n) ∷ own.log.past) c.len.ensures in
    ties_deposit g.N.Name.guest g.N.Name.rings own.slots own.log c.take.new.self own.seats c.learn.new.self b.vcpu b.first b.entries b.note.entries c.self.invariant c.learn.ensures b.stand c.requires.some c.take.ensures.guest past

pub returns-clause-end : goal.returns-clause-end
returns-clause-end g c =
    let own = c.self.inside in
    let b = c.args.batch in
    let was : own.log.past ≡ c.args.self.now.past = ap (λ (s : SeatedView). s.past) c.self.view_is in
    rw (c.take.ensures.past, c.len.ensures)
    (deposit_fits g.N.Name.guest g.N.Name.rings own.slots own.log own.seats c.learn.new.self b.vcpu b.first b.entries b.note.entries b.note.ring c.self.invariant c.learn.ensures b.stand c.requires.some b.of_ring (rw was c.recall_legal.ensures.legal) (rw was c.requires.end) (rw was c.requires.fresh)).1
