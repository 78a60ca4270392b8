use Rattle.std.proofs.Common.{◌∙◌}
use Rattle.dr_log.proofs.Rowwise.{paced_recently}
use Rattle.dr_log.proofs.paces.all_paced_recently.Goals as goal

pub returns : goal.returns
returns c = λ past h. c.rows_paced_recently.ensures ∙ paced_recently c.args.guest.now past _ (c.as_slice.ensures ∙ h.are_vcpus)
