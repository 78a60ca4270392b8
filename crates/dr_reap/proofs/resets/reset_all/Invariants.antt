use Rattle.std.proofs.Common.{◌≡◌, ◌≤◌, ◌*◌}
use Rattle.dr_bench.specs.Bench.{SameStanding}
use Rattle.dr_schedule_law.specs.Settled.{ResetsBelow}
use Rattle.dr_reap.proofs.resets.reset_all.Given as goal

abbrev pub invariant-loop-v : goal.invariant-loop-v
invariant-loop-v g l = record {
  below : ResetsBelow l.v l.initial.bench.past l.bench.past l.total;
  few : l.total ≤ 200001 * l.v;
  standing : SameStanding l.initial.bench l.bench;
}
