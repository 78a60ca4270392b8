use Rattle.std.proofs.Common.{◌∙◌, sym, ap, map}
use Rattle.dr_ring_set.specs.Seated.{SetView, ring_of_kernel, ring_of_user}
use Rattle.dr_ring_set.proofs.NewSeats.{kernels_of, users_of}
use Rattle.dr_ring_set.proofs.set.RingSet.parts.Goals as goal

pub of-requires-2-after_bounds : goal.of-requires-2-after_bounds
of-requires-2-after_bounds g c κs within =
    ap (map ring_of_kernel) c.self.invariant.0.new_kernels
    ∙ (kernels_of _ ∙ (ap (λ (s : SetView). s.rings) c.self.view_is ∙ sym c.requires))

pub of-requires-3-clause-named : goal.of-requires-3-clause-named
of-requires-3-clause-named g c κs within =
    ap (map ring_of_user) c.self.invariant.0.new_users
    ∙ (users_of _ ∙ (ap (λ (s : SetView). s.rings) c.self.view_is ∙ sym c.requires))
