use Rattle.dr_log.proofs.Limits.{value_is}
use Rattle.dr_log.proofs.op_event.value_loaded.Goals as goal

pub returns : goal.returns
returns c = value_is c.args.log.now.guest c.args.log.now.past c.args.space c.args.addr c.loaded.result c.requires.1 c.loaded.ensures
