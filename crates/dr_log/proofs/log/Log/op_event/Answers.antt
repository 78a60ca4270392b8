use Rattle.std.proofs.Common.{rules}
use Rattle.dr_log.proofs.Limits.{write_fits}
use Rattle.dr_log.proofs.log.Log.op_event.Goals as goal

pub returns-in-W-clause-fits : goal.returns-in-W-clause-fits
returns-in-W-clause-fits c =
    write_fits c.args.self.now.guest c.args.v c.next_number-i.result c.in-W.space c.in-W.addr c.in-W.len c.in-W.value c.recall_legal.ensures.valid (search rules) (search rules)
    (rw c.in-W.is at c.requires.fits)
