use Rattle.std.proofs.Common.{arith, ap}
use Rattle.std.proofs.lemmas.Option.{slice_get-get_or}
use Rattle.dr_report.specs.Draft.{vcpu_share}
use Rattle.dr_report.proofs.Tables.{line_added}
use Rattle.dr_report.proofs.draft.push_vcpus.Goals as goal

pub loop-v-preserved : goal.loop-v-preserved
loop-v-preserved c =
    line_added _ c.loop-v.v _ _ _ _ c.loop-v.invariant c.in_ok-push_vcpu.ensures
    (ap (vcpu_share c.loop-v.v) (slice_get-get_or c.args.tallies.now c.loop-v.v _ (omega arith)))
