use Rattle.dr_reap.proofs.Noted.{note_counts}
use Rattle.dr_reap.proofs.notes.note_of.Goals as goal

pub returns-clause-pushed : goal.returns-clause-pushed
returns-clause-pushed g c = note_counts g.N.Name.guest c.args.bench.now.past c.args.bench.now.seats c.args.v c.note.result c.recall_kept.ensures.seats c.note.ensures.note.copy
