use Rattle.std.proofs.Common.{◌≡◌, ◌==◌, ℕ, false, length}
use Rattle.dr_bench.specs.Bench.{SameStanding}
use Rattle.dr_schedule_law.specs.Settled.{of_vcpu, Deposits}
use Rattle.dr_reap.specs.Batches.{ranges_of}
use Rattle.dr_reap.proofs.deposits.deposit_of.Given as goal

abbrev pub invariant-loop-batch : goal.invariant-loop-batch
invariant-loop-batch g l = record {
  deposits : Deposits (of_vcpu l.v (ranges_of l.initial.batches.items)) (of_vcpu l.v (ranges_of l.batches.items)) l.initial.bench.past l.bench.past;
  others : (w : ℕ) → (w == l.v) ≡ false → of_vcpu w (ranges_of l.batches.items) ≡ of_vcpu w (ranges_of l.initial.batches.items);
  standing : SameStanding l.initial.bench l.bench;
}

abbrev pub decreases-loop-batch : goal.decreases-loop-batch
decreases-loop-batch g l = length l.batches.items
