use Rattle.std.proofs.Common.{◌≡◌, ◌≤◌, ◌+◌, ◌-◌}
use Rattle.dr_history.specs.Entries.{resets}
use Rattle.dr_bench.specs.Bench.{SameStanding}
use Rattle.dr_schedule_law.specs.Settled.{Resets}
use Rattle.dr_reap.proofs.resets.reset_of.Given as goal

abbrev pub invariant-loop-count : goal.invariant-loop-count
invariant-loop-count g l = record {
  own : Resets l.v l.initial.bench.past l.bench.past l.count;
  few : resets l.v l.bench.past ≤ 200001;
  counted : resets l.v l.bench.past ≡ resets l.v l.initial.bench.past + l.count;
  standing : SameStanding l.initial.bench l.bench;
}

abbrev pub decreases-loop-count : goal.decreases-loop-count
decreases-loop-count g l = 200001 - resets l.v l.bench.past
