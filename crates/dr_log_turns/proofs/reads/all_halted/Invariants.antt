use Rattle.std.proofs.Common.{◌≡◌, ◌≤◌}
use Rattle.std.specs.List.{list_all}
use Rattle.dr_types.specs.Scripts.{vcpu_count}
use Rattle.dr_history.specs.Lookback.{below}
use Rattle.dr_history.specs.Vcpus.{halted}
use Rattle.dr_log_turns.proofs.reads.all_halted.Given as goal

abbrev pub invariant-loop-v : goal.invariant-loop-v
invariant-loop-v l = record {
  all : l.all ≡ list_all (λ v. halted v l.log.past) (below l.v);
  within : l.v ≤ vcpu_count l.log.guest;
}
