-- The lemmas that a function uses by name, where they are many.
use Rattle.dr_log_turns.proofs.Throttling.{throttles_stay, op_throttles}
use Rattle.dr_turns_law.proofs.Buffers.{finds_place}
use Rattle.dr_turns_law.proofs.Flushing.{reset_follows, reset_ends, flush_follows, flush_ends}
use Rattle.dr_machine.proofs.Pushing.{next_may_follow, one_more}

pub ruleset for_push_buffer = (finds_place, next_may_follow, one_more)

pub ruleset for_op_throttles = (throttles_stay, op_throttles)

pub ruleset for_reset = (reset_follows, reset_ends)

pub ruleset for_flush = (flush_follows, flush_ends)
