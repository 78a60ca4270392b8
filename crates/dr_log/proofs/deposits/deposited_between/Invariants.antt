use Rattle.std.proofs.Common.{◌≡◌}
use Rattle.std.specs.Prelude.{◌&&◌, nat_le}
use Rattle.std.specs.List.{list_any}
use Rattle.dr_history.specs.Lookback.{below}
use Rattle.dr_log.specs.Tests.{deposited_at}
use Rattle.dr_log.proofs.deposits.deposited_between.Given as goal

abbrev pub invariant-loop-k : goal.invariant-loop-k
invariant-loop-k l = l.found ≡ list_any (λ j. nat_le l.from j && deposited_at l.entries j) (below l.k)
