use Rattle.std.proofs.Common.{◌≡◌, ◌∙◌, ℕ, set, ap, subst}
use Rattle.dr_ring.specs.Seats.{KernelView}
use Rattle.dr_ring_set.specs.Seated.{ring_of_kernel, IsReset}
use Rattle.dr_ring_set.proofs.Lookups.{same_rings, in_seats, pair_at}
use Rattle.dr_ring_set.proofs.kernels.KernelSeats.reset_next.Goals as goal

pub reset_next-requires : goal.reset_next-requires
reset_next-requires g c = (pair_at ring_of_kernel _ _ _ _ _ _ _ _ c.self.view_is c.self.invariant c.rings.invariant c.requires c.index_mut.ensures.value c.index.ensures).ring

pub invariant_of-self : goal.invariant_of-self
invariant_of-self g c = same_rings ring_of_kernel ring_of_kernel c.self.inside.seats.items c.args.v c.index_mut.result.now c.reset_next.new.self (in_seats ring_of_kernel _ _ _ c.self.invariant c.requires) c.index_mut.ensures.value c.reset_next.ensures.ring ∙ c.self.invariant

pub returns : goal.returns
returns g c =
    let new : KernelView = c.reset_next.new.self in
    let pair = pair_at ring_of_kernel _ _ _ _ _ _ _ _ c.self.view_is c.self.invariant c.rings.invariant c.requires c.index_mut.ensures.value c.index.ensures in
    let size : c.index.result.now.size ≡ c.args.rings.now.size = pair.size_is ∙ ap (λ r. r.size) c.rings.view_is in
    let moved : IsReset c.index.result.now.size c.index_mut.result.now new c.reset_next.result = record { entry = c.reset_next.ensures.entry; is_reset = c.reset_next.ensures.reset; none = c.reset_next.ensures.none; learnt = c.reset_next.ensures.learnt } in (
      c.index_mut.result.now,
      new,
      pair.at,
      (λ i. set (c.self.view_is i) c.args.v new),
      subst (λ (z : ℕ). IsReset z c.index_mut.result.now new c.reset_next.result) size moved,
    )
