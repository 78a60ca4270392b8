use Rattle.std.proofs.Common.{◌≡◌, ◌<◌, true, rules}
use Rattle.dr_types.specs.Scripts.{vcpu_count}
use Rattle.dr_history.specs.Vcpus.{kicked}
use Rattle.dr_log_turns.proofs.Least.{kicked_here}
use Rattle.dr_log_turns.proofs.searches.first_kicked.Goals as goal

pub returns-then-kicked-clause-is : goal.returns-then-kicked-clause-is
returns-then-kicked-clause-is c =
    let log = c.args.log.now in
    let v = c.loop-v.v in
    let is : kicked v log.past ≡ true = search (rules, c.kicked.ensures, c.if-kicked.true) in
    let within : v < vcpu_count log.guest = search (rules, c.loop-v-test.true, c.vcpus-v-end.ensures) in
    kicked_here log.guest log.past v c.loop-v.invariant.none is within
