use Rattle.std.proofs.Common.{◌≡◌, ◌≤◌, ℕ}
use Rattle.dr_bench.specs.Bench.{SameStanding}
use Rattle.dr_schedule_law.specs.Settled.{of_vcpu, in_order, deposited_all}
use Rattle.dr_reap.specs.Batches.{ranges_of}
use Rattle.dr_reap.proofs.deposits.deposit_all.Given as goal

abbrev pub invariant-loop-v : goal.invariant-loop-v
invariant-loop-v g l = record {
  past : l.bench.past ≡ deposited_all (in_order l.v (ranges_of l.initial.batches.items)) l.initial.bench.past;
  later : (w : ℕ) → l.v ≤ w → of_vcpu w (ranges_of l.batches.items) ≡ of_vcpu w (ranges_of l.initial.batches.items);
  standing : SameStanding l.initial.bench l.bench;
}
