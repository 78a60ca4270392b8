use Rattle.std.proofs.Common.{◌≡◌, set, ap, ◌∙◌, arith}
use Rattle.dr_ring.specs.Seats.{KernelView}
use Rattle.dr_ring_set.specs.Seated.{ring_of_kernel}
use Rattle.dr_ring_set.proofs.Lookups.{same_rings, in_seats, pair_at}
use Rattle.dr_ring_set.proofs.kernels.KernelSeats.push.Goals as goal

pub push-requires-clause-ring : goal.push-requires-clause-ring
push-requires-clause-ring g c = (pair_at ring_of_kernel _ _ _ _ _ _ _ _ c.self.view_is c.self.invariant c.rings.invariant c.requires.vcpu c.index_mut.ensures.value c.index.ensures).ring

pub push-requires-clause-room : goal.push-requires-clause-room
push-requires-clause-room g c =
    let pair = pair_at ring_of_kernel _ _ _ _ _ _ _ _ c.self.view_is c.self.invariant c.rings.invariant c.requires.vcpu c.index_mut.ensures.value c.index.ensures in
    let room = c.requires.room c.index_mut.result.now pair.at in
    let size : c.index.result.now.size ≡ c.args.rings.now.size = pair.size_is ∙ ap (λ r. r.size) c.rings.view_is in
    omega arith

pub push-requires-clause-count : goal.push-requires-clause-count
push-requires-clause-count g c =
    let pair = pair_at ring_of_kernel _ _ _ _ _ _ _ _ c.self.view_is c.self.invariant c.rings.invariant c.requires.vcpu c.index_mut.ensures.value c.index.ensures in
    c.requires.count c.index_mut.result.now pair.at

pub invariant_of-self : goal.invariant_of-self
invariant_of-self g c = same_rings ring_of_kernel ring_of_kernel c.self.inside.seats.items c.args.v c.index_mut.result.now c.push.new.self (in_seats ring_of_kernel _ _ _ c.self.invariant c.requires.vcpu) c.index_mut.ensures.value (ap ring_of_kernel c.push.ensures) ∙ c.self.invariant

pub returns : goal.returns
returns g c =
    let new : KernelView = c.push.new.self in
    let pair = pair_at ring_of_kernel _ _ _ _ _ _ _ _ c.self.view_is c.self.invariant c.rings.invariant c.requires.vcpu c.index_mut.ensures.value c.index.ensures in
    (c.index_mut.result.now, new, pair.at, (λ i. set (c.self.view_is i) c.args.v new), c.push.ensures)
