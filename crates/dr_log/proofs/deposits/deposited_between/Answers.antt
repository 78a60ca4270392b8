use Rattle.std.proofs.Common.{sym}
use Rattle.dr_log.proofs.Numbers.{none_before}
use Rattle.dr_log.proofs.deposits.deposited_between.Goals as goal

pub loop-k-init : goal.loop-k-init
loop-k-init c = sym (none_before c.args.entries.now c.args.from)
