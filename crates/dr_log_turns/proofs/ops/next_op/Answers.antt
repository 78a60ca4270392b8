use Rattle.std.proofs.Common.{◌≡◌, ◌∙◌, Option, None, is_some, sym, ap}
use Rattle.std.proofs.lemmas.Bool.{false≢true}
use Rattle.dr_types.specs.declared.guest.Op.{Op}
use Rattle.dr_types.specs.Scripts.{operation}
use Rattle.dr_history.specs.Execution.{ops}
use Rattle.dr_turns.specs.Between.{MayTurn}
use Rattle.dr_turns_law.proofs.Executing.{may_turn}
use Rattle.dr_log_turns.proofs.ops.next_op.Goals as goal

pub unreachable-requires : goal.unreachable-requires
unreachable-requires c =
    let log = c.args.log.now in
    let turn : MayTurn log.guest log.past c.args.v =
    may_turn log.guest log.past c.args.over c.args.v c.recall_legal.ensures.valid c.recall_legal.ensures.legal c.requires.end c.requires.vcpu (sym c.refusal.ensures ∙ c.in-None.is) in
    let none : operation log.guest c.args.v (ops c.args.v log.past) ≡ None = sym c.next_op.ensures ∙ c.in-None-next_op.is in
    false≢true (sym (ap (λ (o : Option Op). is_some o) none) ∙ turn.some)

pub returns-clause-turn : goal.returns-clause-turn
returns-clause-turn c =
    let log = c.args.log.now in
    may_turn log.guest log.past c.args.over c.args.v c.recall_legal.ensures.valid c.recall_legal.ensures.legal c.requires.end c.requires.vcpu (sym c.refusal.ensures ∙ c.in-None.is)
