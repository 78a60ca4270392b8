-- The lemmas that a function uses by name, where they are many.
use Rattle.dr_reap.proofs.Standing.{standing_then}
use Rattle.dr_reap.proofs.Ranges.{deposits_none, deposits_more, deposits_whole, deposits_part, order_more, order_part}
use Rattle.dr_reap.proofs.Gathered.{none_reaped, whole_reaped, whole_deposited, part_reaped, none_begun, part_begun}
use Rattle.dr_reap.proofs.Resetting.{resets_own, resets_none, resets_more, resets_all, resets_some, below_none, below_more, below_part}

pub ruleset for_deposit_of = (standing_then, deposits_none, deposits_more, deposits_whole, deposits_part)

pub ruleset for_deposit_all = (standing_then, order_more, order_part)

pub ruleset for_reap = (none_reaped, whole_reaped, whole_deposited, part_reaped, none_begun, part_begun)

pub ruleset for_reset_of = (standing_then, resets_own, resets_none, resets_more, resets_all, resets_some)

pub ruleset for_reset_all = (standing_then, below_none, below_more, below_part)
