use Rattle.std.proofs.Common.{◌∙◌}
use Rattle.dr_log.proofs.Rowwise.{kicked_some}
use Rattle.dr_log.proofs.paces.some_kicked.Goals as goal

pub returns : goal.returns
returns c = λ past h. c.rows_kicked.ensures ∙ kicked_some c.args.guest.now past _ (c.as_slice.ensures ∙ h.are_vcpus)
