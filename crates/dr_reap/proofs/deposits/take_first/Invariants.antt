use Rattle.std.proofs.Common.{◌≡◌, [], take}
use Rattle.dr_schedule_law.specs.Settled.{of_vcpu}
use Rattle.dr_reap.specs.Batches.{ranges_of}
use Rattle.dr_reap.proofs.deposits.take_first.Given as goal

abbrev pub invariant-loop-i : goal.invariant-loop-i
invariant-loop-i g l = (l.batches.items ≡ l.initial.batches.items) × (of_vcpu l.v (ranges_of (take l.i l.batches.items)) ≡ [])
