use Rattle.std.proofs.Common.{◌∙◌}
use Rattle.dr_log.proofs.Numbers.{some_at}
use Rattle.dr_log.proofs.deposits.some_deposited.Goals as goal

pub returns : goal.returns
returns c = λ past h. c.deposited_between.ensures ∙ some_at c.args.guest.now past c.args.v c.args.from c.args.to _ h.legal (c.of.ensures _ past h.are_entries) c.requires.order
