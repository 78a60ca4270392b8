use Rattle.std.proofs.Common.{◌≡◌, ◌∙◌, set, ap}
use Rattle.dr_ring.specs.Seats.{KernelView}
use Rattle.dr_ring_set.specs.Seated.{ring_of_kernel}
use Rattle.dr_ring_set.proofs.Lookups.{same_rings, in_seats, pair_at}
use Rattle.dr_ring_set.proofs.kernels.KernelSeats.learn.Goals as goal

pub learn-requires-clause-ring : goal.learn-requires-clause-ring
learn-requires-clause-ring g c = (pair_at ring_of_kernel _ _ _ _ _ _ _ _ c.self.view_is c.self.invariant c.rings.invariant c.requires.vcpu c.index_mut.ensures.value c.index.ensures).ring

pub learn-requires-clause-of_ring : goal.learn-requires-clause-of_ring
learn-requires-clause-of_ring g c =
    let pair = pair_at ring_of_kernel _ _ _ _ _ _ _ _ c.self.view_is c.self.invariant c.rings.invariant c.requires.vcpu c.index_mut.ensures.value c.index.ensures in
    let same : c.args.note.ring ≡ ring_of_kernel c.index_mut.result.now = cc (c.requires.of_ring, pair.named) in
    same ∙ pair.ring

pub invariant_of-self : goal.invariant_of-self
invariant_of-self g c = same_rings ring_of_kernel ring_of_kernel c.self.inside.seats.items c.args.v c.index_mut.result.now c.learn.new.self (in_seats ring_of_kernel _ _ _ c.self.invariant c.requires.vcpu) c.index_mut.ensures.value (ap ring_of_kernel c.learn.ensures.seat) ∙ c.self.invariant

pub returns : goal.returns
returns g c =
    let new : KernelView = c.learn.new.self in
    let pair = pair_at ring_of_kernel _ _ _ _ _ _ _ _ c.self.view_is c.self.invariant c.rings.invariant c.requires.vcpu c.index_mut.ensures.value c.index.ensures in
    let entries : new.pushed ≡ c.index_mut.result.now.pushed = ap (λ (z : KernelView). z.pushed) c.learn.ensures.seat in (
      c.index_mut.result.now,
      new,
      pair.at,
      (λ i. set (c.self.view_is i) c.args.v new),
      (c.learn.ensures.seat, rw entries at c.learn.ensures.prefix),
    )
