use Rattle.std.proofs.Common.{◌≡◌, ◌≤◌, ◌∙◌, false, sym, rules, arith}
use Rattle.std.specs.Prelude.{◌==◌}
use Rattle.dr_history.specs.Kinds.{is_op_of, is_asked}
use Rattle.dr_history.specs.Lookback.{count, since}
use Rattle.dr_history.specs.Rounds.{asks}
use Rattle.dr_turns_law.proofs.Going.{ask_later_follows, recent_fit}
use Rattle.dr_log_turns.proofs.rounds.ask_next.Goals as goal

pub ask-requires-in-None-clause-follows : goal.ask-requires-in-None-clause-follows
ask-requires-in-None-clause-follows c =
    let log = c.args.log.now in
    let some : (asks log.past == 0) ≡ false = search (rules, c.asks.ensures, c.if-asks-eq0.false) in
    ask_later_follows log.guest log.past c.recall_legal.ensures.legal c.requires.end c.requires.started c.requires.answered c.requires.page_to_copy c.requires.here c.requires.runs c.requires.many c.requires.more some
    (sym c.first_unpaced_recently.ensures.is ∙ c.in-None.is)

pub overflow_cast-result : goal.overflow_cast-result
overflow_cast-result c =
    let log = c.args.log.now in
    let few : count (is_op_of c.in-Some.v) (since is_asked log.past) ≤ 200000 = recent_fit log.guest log.past c.in-Some.v c.recall_legal.ensures.valid c.recall_legal.ensures.legal c.in-Some.ensures.within in
    rw c.recent_ops.ensures (omega arith)
