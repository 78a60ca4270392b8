use Rattle.std.proofs.Common.{◌≡◌, List, Some, refl, subst, slice_get}
use Rattle.std.proofs.lemmas.Option.{slice_get_read}
use Rattle.dr_collector.specs.Collected.{Collected}
use Rattle.dr_collector.specs.Pending.{collected}
use Rattle.dr_collector.proofs.Gathering.{has_pending, has_seat, collected_at}
use Rattle.dr_collector.proofs.collector.Collector.handed.Goals as goal

pub returns : goal.returns
returns g c =
    let seat = has_seat _ _ _ _ c.self.invariant c.requires in
    let pending = slice_get_read c.self.inside.pendings.items _ c.args.v c.index.result.now refl (has_pending _ _ _ _ c.self.invariant c.requires) c.index.ensures in
    let whole : Collected = collected seat.0 c.index.result.now in
    (whole, subst (λ (cs : List Collected). slice_get cs c.args.v ≡ Some whole) c.self.view_is (collected_at c.self.inside.users c.self.inside.pendings.items c.args.v _ _ seat.1 pending), c.handed.ensures)
