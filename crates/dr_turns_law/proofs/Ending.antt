-- What a turn of a vCPU that executes leaves.
use Rattle.std.proofs.Common.{ℕ, List}
use Rattle.dr_types.specs.declared.guest.Guest.{Guest}
use Rattle.dr_history.specs.declared.event.Event.{Event}
use Rattle.dr_turns.specs.Between.{AtTurnsEnd, MayTurn}
use Rattle.dr_turns.specs.Turns.{after_op, executed}
use Rattle.dr_turns_law.proofs.Buffers.{pushed_ends}
use Rattle.dr_turns_law.proofs.Executing.{executed_rests, executed_others}

-- after its operation and its buffer nothing is owed and no buffer is full
pub op_ends : (guest : Guest) (past : List Event) (v : ℕ) → MayTurn guest past v → AtTurnsEnd guest (after_op guest v past)
op_ends guest past v t = pushed_ends guest (executed guest v past) v (executed_rests guest past v t) (executed_others guest past v t)
