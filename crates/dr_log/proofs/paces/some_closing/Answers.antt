use Rattle.std.proofs.Common.{◌∙◌}
use Rattle.dr_log.proofs.Rowwise.{closing_some}
use Rattle.dr_log.proofs.paces.some_closing.Goals as goal

pub returns : goal.returns
returns c = λ past h. c.any.ensures ∙ closing_some c.args.guest.now past _ _ h.protection_pages h.is_protection.is_closing
