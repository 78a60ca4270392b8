use Rattle.std.proofs.Common.{List, refl, subst, set, is_ok}
use Rattle.std.proofs.lemmas.Option.{slice_get_read}
use Rattle.dr_ring_set.specs.Seated.{MovesAt}
use Rattle.dr_collector.specs.Collected.{Collected}
use Rattle.dr_collector.specs.Pending.{Gathers, all_collected}
use Rattle.dr_collector.proofs.Gathering.{has_pending, pending_fits, gathered}
use Rattle.dr_collector.proofs.collector.Collector.gather.Goals as goal

pub fill-requires-clause-most : goal.fill-requires-clause-most
fill-requires-clause-most g c κs within =
    pending_fits _ _ _ _ _ _ c.self.invariant c.recall_sizes.ensures c.requires.vcpu
    (slice_get_read c.self.inside.pendings.items _ c.args.v c.index_mut.result.now refl (has_pending _ _ _ _ c.self.invariant c.requires.vcpu) c.index_mut.ensures.value)

pub invariant_of-self : goal.invariant_of-self
invariant_of-self g c =
    (gathered _ _ _ _ _ _ _ _ _ _ _ c.self.invariant c.recall_sizes.ensures
    (slice_get_read c.self.inside.pendings.items _ c.args.v c.index_mut.result.now refl (has_pending _ _ _ _ c.self.invariant c.requires.vcpu) c.index_mut.ensures.value)
    c.learn_seen.ensures c.fill.ensures).are

pub returns : goal.returns
returns g c =
    subst (λ (cs : List Collected). MovesAt cs (all_collected c.fill.new.users (set c.self.inside.pendings.items c.args.v c.fill.new.pending)) c.args.v (λ d e. Gathers c.args.rings.now.size c.args.seen (is_ok c.fill.result) d e)) c.self.view_is
    (gathered _ _ _ _ _ _ _ _ _ _ _ c.self.invariant c.recall_sizes.ensures
    (slice_get_read c.self.inside.pendings.items _ c.args.v c.index_mut.result.now refl (has_pending _ _ _ _ c.self.invariant c.requires.vcpu) c.index_mut.ensures.value)
    c.learn_seen.ensures c.fill.ensures).moves
