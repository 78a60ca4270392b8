use Rattle.std.proofs.Common.{◌∙◌}
use Rattle.dr_log.proofs.Numbers.{at_number}
use Rattle.dr_log.proofs.deposits.is_deposited.Goals as goal

pub returns : goal.returns
returns c = λ past h. c.deposited_at.ensures ∙ at_number c.args.guest.now past c.args.v c.args.k _ h.legal (c.of.ensures _ past h.are_entries)
