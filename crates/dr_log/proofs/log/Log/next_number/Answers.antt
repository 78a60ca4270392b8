use Rattle.std.proofs.Common.{◌≤◌, arith}
use Rattle.dr_history.specs.Execution.{ops}
use Rattle.dr_turns_law.proofs.Starting.{few_ops}
use Rattle.dr_log.proofs.log.Log.next_number.Goals as goal

pub overflow_cast-result : goal.overflow_cast-result
overflow_cast-result c =
    let log = c.args.self.now in
    let few : ops c.args.v log.past ≤ 200000 = few_ops log.guest c.args.v log.past c.recall_legal.ensures.valid c.recall_legal.ensures.legal c.requires in
    rw c.ops.ensures (omega arith)
