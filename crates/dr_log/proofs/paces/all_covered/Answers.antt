use Rattle.std.proofs.Common.{◌∙◌}
use Rattle.dr_log.proofs.Rowwise.{covered_all}
use Rattle.dr_log.proofs.paces.all_covered.Goals as goal

pub returns : goal.returns
returns c = λ past h. c.rows_covered.ensures ∙ covered_all c.args.guest.now past _ h.legal (c.as_slice.ensures ∙ h.are_vcpus)
