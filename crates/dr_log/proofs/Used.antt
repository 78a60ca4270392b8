-- The lemmas that a function uses by name, where they are many.
use Rattle.dr_turns_law.proofs.Operations.{lies_in_one_page}
use Rattle.dr_log.proofs.Limits.{value_is, write_fits, store_fits, read_fits}

pub ruleset for_value_loaded = (lies_in_one_page, value_is)

pub ruleset for_op_event = (write_fits, store_fits, read_fits)
