use Rattle.std.proofs.Common.{◌≤◌, arith}
use Rattle.dr_history.specs.Rounds.{asks}
use Rattle.dr_turns_law.proofs.Going.{asks_fit}
use Rattle.dr_log_turns.proofs.rounds.ask.Goals as goal

pub overflow_cast-r : goal.overflow_cast-r
overflow_cast-r c =
    let few : asks c.args.log.now.past ≤ 65 = asks_fit c.args.log.now.guest c.args.log.now.past c.recall_legal.ensures.valid c.recall_legal.ensures.legal in
    rw c.asks.ensures (omega arith)

pub overflow_add-r : goal.overflow_add-r
overflow_add-r c =
    let few : asks c.args.log.now.past ≤ 65 = asks_fit c.args.log.now.guest c.args.log.now.past c.recall_legal.ensures.valid c.recall_legal.ensures.legal in
    rw c.asks.ensures (omega arith)

pub take-requires-clause-fits : goal.take-requires-clause-fits
take-requires-clause-fits c =
    let few : asks c.args.log.now.past ≤ 65 = asks_fit c.args.log.now.guest c.args.log.now.past c.recall_legal.ensures.valid c.recall_legal.ensures.legal in
    rw c.asks.ensures (omega arith)
