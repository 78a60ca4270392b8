use Rattle.std.proofs.Common.{◌≡◌, ◌<◌, true, rules}
use Rattle.dr_types.specs.Scripts.{vcpu_count}
use Rattle.std.specs.Prelude.{nat_lt}
use Rattle.dr_history.specs.Entries.{opens, resets}
use Rattle.dr_history.specs.Kinds.{is_asked}
use Rattle.dr_history.specs.Lookback.{before}
use Rattle.dr_log_turns.proofs.Least.{unreset_here}
use Rattle.dr_log_turns.proofs.searches.first_unreset.Goals as goal

pub returns-then-is_unreset-clause-is : goal.returns-then-is_unreset-clause-is
returns-then-is_unreset-clause-is c =
    let log = c.args.log.now in
    let v = c.loop-v.v in
    let is : nat_lt (resets v log.past) (opens v (before is_asked log.past)) ≡ true = search (rules, c.is_unreset.ensures, c.if-is_unreset.true) in
    let within : v < vcpu_count log.guest = search (rules, c.loop-v-test.true, c.vcpus-v-end.ensures) in
    unreset_here log.guest log.past v c.loop-v.invariant.none is within
