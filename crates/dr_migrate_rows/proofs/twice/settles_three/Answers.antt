use Rattle.std.proofs.Common.{List, ap, subst, slice_get, ◌≡◌, Some}
use Rattle.dr_ring.specs.Seats.{UserView}
use Rattle.dr_ring_set.proofs.NewSeats.{new_user_at}
use Rattle.dr_migrate_rows.proofs.twice.settles_three.Goals as goal

pub three_batches-requires-clause-new : goal.three_batches-requires-clause-new
three_batches-requires-clause-new g c κs within =
    λ s at. ap (λ (x : UserView). x.harvested) (new_user_at g.N.Name.rings 0 s (subst (λ (xs : List UserView). slice_get xs 0 ≡ Some s) c.requires at))
