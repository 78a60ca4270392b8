use Rattle.std.proofs.Common.{◌≡◌, ◌≤◌}
use Rattle.std.specs.Prelude.{nat_lt, None}
use Rattle.dr_types.specs.Scripts.{vcpu_count}
use Rattle.dr_history.specs.Entries.{opens, resets}
use Rattle.dr_history.specs.Kinds.{is_asked}
use Rattle.dr_history.specs.Lookback.{before}
use Rattle.dr_turns.specs.Firsts.{first_below}
use Rattle.dr_log_turns.proofs.searches.first_unreset.Given as goal

abbrev pub invariant-loop-v : goal.invariant-loop-v
invariant-loop-v l = record {
  none : first_below (λ u. nat_lt (resets u l.log.past) (opens u (before is_asked l.log.past))) l.v ≡ None;
  most : l.v ≤ vcpu_count l.log.guest;
}
