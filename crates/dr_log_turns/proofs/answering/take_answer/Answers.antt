use Rattle.std.proofs.Common.{◌∙◌, ◌∷◌, List, ℕ, ap, sym, subst, is_some}
use Rattle.std.specs.Prelude.{Option}
use Rattle.dr_history.specs.declared.event.Event.TheVariants.{Synced}
use Rattle.dr_event_law.specs.May.{MayFollow}
use Rattle.dr_event_law.proofs.Rounds.{asked_here}
use Rattle.dr_turns_law.proofs.Answering.{answer_follows}
use Rattle.dr_log_turns.proofs.answering.take_answer.Goals as goal

pub answer-requires-clause-follows : goal.answer-requires-clause-follows
answer-requires-clause-follows c =
    let log = c.args.log.now in
    subst (λ (ps : List ℕ). MayFollow log.guest log.past (Synced c.args.r c.args.now ps)) (sym c.requires.pages)
    (answer_follows log.guest log.past c.args.r c.args.now c.recall_legal.ensures.legal c.requires.end c.requires.asked c.requires.out c.requires.reset c.requires.flushed)

pub throttle_vcpus-requires-clause-answered : goal.throttle_vcpus-requires-clause-answered
throttle_vcpus-requires-clause-answered c =
    let log = c.args.log.now in
    rw c.answer.ensures.guest (record {
      before = log.past;
      round = c.args.r;
      at = c.args.now;
      is = c.answer.ensures.past ∙ ap (λ (ps : List ℕ). Synced c.args.r c.args.now ps ∷ log.past) c.requires.pages;
      end = c.requires.end;
      here = asked_here log.guest log.past c.recall_legal.ensures.legal (ap (λ (o : Option ℕ). is_some o) c.requires.asked);
    })
