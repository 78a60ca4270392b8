-- The lemmas that a function uses by name, where they are many.
use Rattle.dr_turns_law.proofs.Depositing.{twice_none, twice_more, twice_here}
use Rattle.dr_turns_law.proofs.Reach.{resets_are_deposited, one_more_deposited, unpushed_undeposited, some_from, none_from, none_from_pushes, exactly_first, gap_here}
use Rattle.dr_turns_law.proofs.Going.{switch_follows, ask_last_follows, ask_first_follows, ask_later_follows}
use Rattle.dr_log_turns.proofs.Throttling.{one_taken, none_taken}
use Rattle.dr_turns_law.proofs.Executing.{alone_follows, filled_follows, write_follows_filled, opened_follows, write_follows_opened, event_writes, quiet_follows}
use Rattle.dr_log_turns.proofs.Rooms.{write_has_room, quiet_has_room, op_in_range}

pub ruleset for_first_twice = (twice_none, twice_more, twice_here)

pub ruleset for_first_missing = (resets_are_deposited, one_more_deposited, unpushed_undeposited)

pub ruleset for_some_from = (some_from, none_from, none_from_pushes)

pub ruleset for_deposited = (exactly_first, gap_here)

pub ruleset for_go_on_stopped = (switch_follows, ask_last_follows)

pub ruleset for_ask_next = (ask_first_follows, ask_later_follows)

pub ruleset for_take_all = (one_taken, none_taken)

pub ruleset for_write_alone = (alone_follows, write_has_room)

pub ruleset for_write_filled = (filled_follows, write_follows_filled, write_has_room)

pub ruleset for_write_opened = (opened_follows, write_follows_opened, write_has_room)

pub ruleset for_op = (event_writes, quiet_follows, quiet_has_room, op_in_range)
