use Rattle.std.proofs.Common.{◌≡◌, ◌≤◌}
use Rattle.std.specs.Prelude.{not, None}
use Rattle.dr_types.specs.Scripts.{vcpu_count}
use Rattle.dr_history.specs.Kinds.{is_asked}
use Rattle.dr_history.specs.Lookback.{since}
use Rattle.dr_history.specs.Vcpus.{paced}
use Rattle.dr_turns.specs.Firsts.{first_below}
use Rattle.dr_log_turns.proofs.searches.first_unpaced_recently.Given as goal

abbrev pub invariant-loop-v : goal.invariant-loop-v
invariant-loop-v l = record {
  none : first_below (λ u. not (paced l.log.guest u (since is_asked l.log.past) l.log.past)) l.v ≡ None;
  most : l.v ≤ vcpu_count l.log.guest;
}
