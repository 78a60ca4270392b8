use Rattle.dr_log_turns.specs.Throttled.{AreTaken}
use Rattle.dr_log_turns.proofs.throttles.Throttles.take_all.Given as goal

abbrev pub invariant-loop-v : goal.invariant-loop-v
invariant-loop-v l = AreTaken l.log.guest l.log.past l.v l.self-inside.us.items
