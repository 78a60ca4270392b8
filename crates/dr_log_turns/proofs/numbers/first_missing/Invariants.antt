use Rattle.dr_turns_law.specs.Deposits.{FirstDeposited}
use Rattle.dr_log_turns.proofs.numbers.first_missing.Given as goal

abbrev pub invariant-loop-k : goal.invariant-loop-k
invariant-loop-k l = FirstDeposited l.v l.k l.log.past
