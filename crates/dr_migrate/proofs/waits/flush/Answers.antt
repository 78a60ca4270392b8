use Rattle.std.proofs.Common.{◌∙◌}
use Rattle.dr_schedule_law.proofs.Telling.{not_flushed}
use Rattle.dr_reap.proofs.Staying.{flush_keeps_all}
use Rattle.dr_migrate.proofs.Waiting.{flush_moves}
use Rattle.dr_migrate.proofs.waits.flush.Goals as goal

pub returns-clause-moves : goal.returns-clause-moves
returns-clause-moves g c =
    let guest = g.N.Name.guest in
    let old = c.args.bench.now.past in
    flush_moves guest c.requires.due.now old c.flush.new.self.past c.requires.due.answer
    (c.in_ok-_some.ensures.turn.appended (not_flushed guest c.requires.due.now old c.recall_kept.ensures.legal.0 c.requires.due.answer))

pub returns-clause-going : goal.returns-clause-going
returns-clause-going g c =
    let guest = g.N.Name.guest in
    let old = c.args.bench.now.past in record {
      whole = c.flush.ensures.standing.failed ∙ c.requires.going.whole;
      going = c.flush.ensures.standing.over ∙ c.requires.going.going;
      all_deposited = rw (c.in_ok-_some.ensures.turn.appended (not_flushed guest c.requires.due.now old c.recall_kept.ensures.legal.0 c.requires.due.answer))
          (flush_keeps_all guest old c.args.collector.now c.requires.going.all_deposited);
    }
