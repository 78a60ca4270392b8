use Rattle.std.proofs.Common.{◌∙◌, length}
use Rattle.dr_schedule_law.specs.Settled.{range_of}
use Rattle.dr_reap.proofs.Standing.{standing_then}
use Rattle.dr_reap.proofs.Ranges.{deposits_more}
use Rattle.dr_reap.proofs.deposits.deposit_of.Goals as goal

pub loop-batch-preserved : goal.loop-batch-preserved
loop-batch-preserved g c = record {
  deposits = deposits_more _ _ _ (range_of c.in-Some.batch.vcpu c.in-Some.batch.first (length c.in-Some.batch.entries)) _ _ _ c.loop-batch.invariant.deposits c.in-Some.ensures.some c.in_ok-deposit_one.ensures.past;
  others = λ w not. c.take_first.ensures.others w not ∙ c.loop-batch.invariant.others w not;
  standing = standing_then _ _ _ c.loop-batch.invariant.standing c.deposit_one.ensures.standing;
}
