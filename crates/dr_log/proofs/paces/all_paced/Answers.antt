use Rattle.std.proofs.Common.{◌∙◌}
use Rattle.dr_log.proofs.Rowwise.{paced}
use Rattle.dr_log.proofs.paces.all_paced.Goals as goal

pub returns : goal.returns
returns c = λ past h. c.rows_paced.ensures ∙ paced c.args.guest.now past _ (c.as_slice.ensures ∙ h.are_vcpus)
