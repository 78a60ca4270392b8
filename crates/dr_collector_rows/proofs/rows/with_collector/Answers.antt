-- New user seats have harvested nothing.
use Rattle.std.proofs.Common.{◌≡◌, List, [], ap, subst, slice_get, Some}
use Rattle.dr_ring.specs.Seats.{UserView}
use Rattle.dr_ring_set.proofs.NewSeats.{new_user_at}
use Rattle.dr_collector.proofs.Seating.{all_from_each}
use Rattle.dr_collector_rows.proofs.rows.with_collector.Goals as goal

-- each seat among new ones is new
pub new-requires-after_bounds : goal.new-requires-after_bounds
new-requires-after_bounds g c κs within = all_from_each (λ (s : UserView). s.harvested ≡ []) c.args.rig.users (λ v s at.
    ap (λ (x : UserView). x.harvested) (new_user_at _ v s (subst (λ (xs : List UserView). slice_get xs v ≡ Some s) c.requires.new at)))
