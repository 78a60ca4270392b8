use Rattle.std.proofs.Common.{List, refl, subst, set}
use Rattle.std.proofs.lemmas.Option.{slice_get_read}
use Rattle.dr_ring_set.specs.Seated.{MovesAt}
use Rattle.dr_collector.specs.Collected.{Collected}
use Rattle.dr_collector.specs.Batched.{as_batch}
use Rattle.dr_collector.specs.Pending.{HandsOut, all_collected}
use Rattle.dr_collector.proofs.Gathering.{has_pending, has_seat, handed_out}
use Rattle.dr_collector.proofs.collector.Collector.hand_out.Goals as goal

pub batch_of-requires-clause-pending : goal.batch_of-requires-clause-pending
batch_of-requires-clause-pending g c κs within =
    let seat = has_seat _ _ _ _ c.self.invariant c.requires in
    let pending = slice_get_read c.self.inside.pendings.items _ c.args.v c.index_mut.result.now refl (has_pending _ _ _ _ c.self.invariant c.requires) c.index_mut.ensures.value in
    (seat.0, seat.1, c.self.invariant.each c.args.v seat.0 c.index_mut.result.now seat.1 pending)

pub invariant_of-self : goal.invariant_of-self
invariant_of-self g c =
    let seat = c.batch_of.ensures.note in
    let pending = slice_get_read c.self.inside.pendings.items _ c.args.v c.index_mut.result.now refl (has_pending _ _ _ _ c.self.invariant c.requires) c.index_mut.ensures.value in
    (handed_out _ _ _ _ _ seat.0 c.index_mut.result.now _ (as_batch c.batch_of.result.vcpu c.batch_of.result.first c.batch_of.result.entries c.batch_of.result.note)
    c.self.invariant c.batch_of.ensures.users seat.1 pending
    (c.batch_of.ensures.handed seat.0 seat.1) c.batch_of.ensures.none c.batch_of.ensures.vcpu c.batch_of.ensures.first c.batch_of.ensures.entries seat.2).are

pub returns : goal.returns
returns g c =
    let seat = c.batch_of.ensures.note in
    let pending = slice_get_read c.self.inside.pendings.items _ c.args.v c.index_mut.result.now refl (has_pending _ _ _ _ c.self.invariant c.requires) c.index_mut.ensures.value in
    let batch = as_batch c.batch_of.result.vcpu c.batch_of.result.first c.batch_of.result.entries c.batch_of.result.note in
    subst (λ (cs : List Collected). MovesAt cs (all_collected c.batch_of.new.users (set c.self.inside.pendings.items c.args.v c.batch_of.new.pending)) c.args.v (λ d e. HandsOut c.args.v d e batch)) c.self.view_is
    (handed_out _ _ _ _ _ seat.0 c.index_mut.result.now _ batch c.self.invariant c.batch_of.ensures.users seat.1 pending
    (c.batch_of.ensures.handed seat.0 seat.1) c.batch_of.ensures.none c.batch_of.ensures.vcpu c.batch_of.ensures.first c.batch_of.ensures.entries seat.2).moves
