use Rattle.std.proofs.Common.{◌≡◌, ◌∙◌, ℕ, set, length-set, ap, subst, arith}
use Rattle.dr_ring.specs.Seats.{UserView}
use Rattle.dr_ring_set.specs.Seated.{ring_of_user, IsHarvest}
use Rattle.dr_ring_set.proofs.Lookups.{same_rings, in_seats, pair_at}
use Rattle.dr_ring_set.proofs.users.UserSeats.harvest_next.Goals as goal

pub harvest_next-requires : goal.harvest_next-requires
harvest_next-requires g c = (pair_at ring_of_user _ _ _ _ _ _ _ _ c.self.view_is c.self.invariant.0 c.rings.invariant c.requires c.index_mut.ensures.value c.index.ensures).ring

pub invariant_of-self : goal.invariant_of-self
invariant_of-self g c = (
  same_rings ring_of_user ring_of_user c.self.inside.seats.items c.args.v c.index_mut.result.now c.harvest_next.new.self (in_seats ring_of_user _ _ _ c.self.invariant.0 c.requires) c.index_mut.ensures.value c.harvest_next.ensures.ring ∙ c.self.invariant.0,
  omega (arith, length-set c.self.inside.seats.items c.args.v c.harvest_next.new.self, c.self.invariant.1),
)

pub returns : goal.returns
returns g c =
    let new : UserView = c.harvest_next.new.self in
    let pair = pair_at ring_of_user _ _ _ _ _ _ _ _ c.self.view_is c.self.invariant.0 c.rings.invariant c.requires c.index_mut.ensures.value c.index.ensures in
    let size : c.index.result.now.size ≡ c.args.rings.now.size = pair.size_is ∙ ap (λ r. r.size) c.rings.view_is in
    let moved : IsHarvest c.index.result.now.size c.index_mut.result.now new c.harvest_next.result = record { some = c.harvest_next.ensures.some; none = c.harvest_next.ensures.none; learnt = c.harvest_next.ensures.learnt } in (
      c.index_mut.result.now,
      new,
      pair.at,
      (λ i. set (c.self.view_is i) c.args.v new),
      subst (λ (z : ℕ). IsHarvest z c.index_mut.result.now new c.harvest_next.result) size moved,
    )
