use Rattle.std.proofs.Common.{◌≡◌, ◌<◌, false, rules}
use Rattle.dr_types.specs.Scripts.{vcpu_count}
use Rattle.dr_history.specs.Kinds.{is_asked}
use Rattle.dr_history.specs.Lookback.{since}
use Rattle.dr_history.specs.Vcpus.{paced}
use Rattle.dr_log_turns.proofs.Least.{unrecent_here}
use Rattle.dr_log_turns.proofs.searches.first_unpaced_recently.Goals as goal

pub returns-then-not-paced-clause-is : goal.returns-then-not-paced-clause-is
returns-then-not-paced-clause-is c =
    let log = c.args.log.now in
    let v = c.loop-v.v in
    let fails : paced log.guest v (since is_asked log.past) log.past ≡ false = search (rules, c.is_paced_recently-paced.ensures, c.if-not-paced.true) in
    let within : v < vcpu_count log.guest = search (rules, c.loop-v-test.true, c.vcpus-v-end.ensures) in
    unrecent_here log.guest log.past v c.loop-v.invariant.none fails within
