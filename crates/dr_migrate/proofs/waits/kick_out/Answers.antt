use Rattle.std.proofs.lemmas.Result.{on_ok_weaker}
use Rattle.dr_schedule_law.proofs.Telling.{not_out}
use Rattle.dr_migrate.proofs.Waiting.{out_moves}
use Rattle.dr_migrate.proofs.waits.kick_out.Goals as goal

pub exit-requires-clause-vcpu : goal.exit-requires-clause-vcpu
exit-requires-clause-vcpu g c κs within = (not_out g.N.Name.guest c.requires.due.now c.args.bench.now.past c.args.v c.recall_kept.ensures.legal.0 c.requires.due.answer).vcpu

pub returns-clause-moves : goal.returns-clause-moves
returns-clause-moves g c =
    on_ok_weaker c.exit.result
    (λ is. out_moves g.N.Name.guest c.requires.due.now c.args.v c.args.bench.now.past c.exit.new.bench.past c.recall_kept.ensures.legal.0 c.requires.due.answer is)
    c.exit.ensures.exited
