use Rattle.std.proofs.Common.{arith, refl}
use Rattle.std.proofs.lemmas.Result.{err_from_is_err_and}
use Rattle.dr_collector.proofs.Filling.{filling_refused, filling_dry}
use Rattle.dr_collector.proofs.fills.fill.Goals as goal

pub returns-in_err-make_room : goal.returns-in_err-make_room
returns-in_err-make_room g c =
    let p = err_from_is_err_and c.from_residual.result c.from_residual.ensures.1 in
    rw p.1 (filling_refused _ _ _ _ _ _ _ _ c.loop-pending.invariant c.make_room.ensures.handed c.make_room.ensures.entries refl)

pub returns-in_default : goal.returns-in_default
returns-in_default g c =
    filling_dry _ _ _ _ _ _ _ _ c.loop-pending.invariant c.make_room.ensures.handed c.make_room.ensures.entries (grind arith) c.in_default.ensures
