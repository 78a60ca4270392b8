use Rattle.std.proofs.Common.{sym, subst, ℕ}
use Rattle.dr_history.specs.declared.event.Event.TheVariants.{Copied}
use Rattle.dr_event_law.specs.May.{MayFollow}
use Rattle.dr_turns_law.proofs.Copying.{copy_follows}
use Rattle.dr_log_turns.proofs.rounds.copy.Goals as goal

pub take-requires-clause-follows : goal.take-requires-clause-follows
take-requires-clause-follows c =
    let log = c.args.log.now in
    subst (λ (r : ℕ). MayFollow log.guest log.past (Copied r c.args.page)) (sym c.answered_round-r.ensures)
    (copy_follows log.guest log.past c.args.page c.recall_legal.ensures.legal c.requires.end c.requires.answered c.requires.page_to_copy)
