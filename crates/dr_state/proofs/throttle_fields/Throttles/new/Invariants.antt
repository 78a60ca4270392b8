use Rattle.std.proofs.Common.{◌≡◌, replicate}
use Rattle.dr_state.proofs.throttle_fields.Throttles.new.Given as goal

abbrev pub invariant-loop-v : goal.invariant-loop-v
invariant-loop-v l = l.list.items ≡ replicate l.v (record { us = 0; peak = 0 })
