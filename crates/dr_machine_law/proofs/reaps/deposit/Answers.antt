use Rattle.std.proofs.Common.{◌<◌, ◌+◌, subst, length, arith, ℕ, List}
use Rattle.std.proofs.lemmas.Option.{slice_get_within}
use Rattle.std.proofs.lemmas.Result.{on_ok_weaker}
use Rattle.dr_history.specs.declared.event.Event.{Event}
use Rattle.dr_history.specs.Legality.{IsLegalSoFar}
use Rattle.dr_seat_law.specs.Seats.{AreSeats}
use Rattle.dr_machine_law.proofs.Reaping.{batch_is_pushed, batch_is_known}
use Rattle.dr_machine_law.proofs.reaps.deposit.Goals as goal

more : (first n : ℕ) → 0 < n → first < first + n
more first n h = omega (arith, h)

pub returns-clause-pushed : goal.returns-clause-pushed
returns-clause-pushed g c =
    let b = c.args.batch in
    let old = c.args.machine.now.past in
    let to = b.first + length b.entries in
    on_ok_weaker c.deposit-answer.result
    (λ is. rw is (batch_is_pushed g.N.Name.guest old b.vcpu b.first to (more b.first (length b.entries) c.requires) (subst (λ (xs : List Event). IsLegalSoFar g.N.Name.guest xs) is c.recall_kept.ensures.legal.0)))
    c.deposit-answer.ensures.appended

pub returns-clause-known : goal.returns-clause-known
returns-clause-known g c =
    let b = c.args.batch in
    let old = c.args.machine.now.past in
    let to = b.first + length b.entries in
    let ring : b.vcpu < length g.N.Name.rings = slice_get_within g.N.Name.rings b.vcpu b.note.ring b.of_ring in
    let within : b.vcpu < length c.deposit-answer.new.self.seats = omega (arith, ring, c.recall_kept.ensures.rings.one_each, c.recall_kept.ensures.one_each) in
    on_ok_weaker c.deposit-answer.result
    (λ is. batch_is_known g.N.Name.guest old c.deposit-answer.new.self.seats b.vcpu b.first to (more b.first (length b.entries) c.requires) within (subst (λ (xs : List Event). AreSeats g.N.Name.guest xs c.deposit-answer.new.self.seats) is c.recall_kept.ensures.seats))
    c.deposit-answer.ensures.appended
