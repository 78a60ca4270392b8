use Rattle.std.proofs.Common.{◌≡◌, ◌≤◌}
use Rattle.std.specs.Prelude.{None}
use Rattle.dr_types.specs.Scripts.{vcpu_count}
use Rattle.dr_history.specs.Vcpus.{kicked}
use Rattle.dr_turns.specs.Firsts.{first_below}
use Rattle.dr_log_turns.proofs.searches.first_kicked.Given as goal

abbrev pub invariant-loop-v : goal.invariant-loop-v
invariant-loop-v l = record {
  none : first_below (λ u. kicked u l.log.past) l.v ≡ None;
  most : l.v ≤ vcpu_count l.log.guest;
}
