use Rattle.std.proofs.Common.{◌≡◌, ◌≤◌}
use Rattle.std.specs.Prelude.{None}
use Rattle.dr_turns_law.specs.Deposits.{first_twice}
use Rattle.dr_log_turns.proofs.numbers.first_twice.Given as goal

abbrev pub invariant-loop-k : goal.invariant-loop-k
invariant-loop-k l = record {
  none : first_twice l.v l.from l.log.past l.k ≡ None;
  from : l.from ≤ l.k;
}
