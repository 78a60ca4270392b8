use Rattle.dr_reap.proofs.Gathered.{one_range, others_kept}
use Rattle.dr_reap.proofs.harvests.harvest_one.Goals as goal

pub returns-clause-range : goal.returns-clause-range
returns-clause-range g c =
    one_range g.N.Name.guest c.args.bench.now.past g.N.Name.rings c.args.rings.now.size c.args.v c.in_ok-batch.field-0.vcpu c.in_ok-batch.field-0.first c.in_ok-batch.field-0.entries c.note_of-note.result c.args.collector.now c.harvest-batch.new.self
    c.recall_kept.ensures.legal.0 c.recall_kept.ensures.rings c.recall_sizes.ensures c.requires.all_deposited c.recall_named.ensures.within c.requires.vcpu c.note_of-note.ensures.pushed
    c.harvest-batch.ensures.kept c.in_ok-batch.ensures.vcpu c.in_ok-batch.ensures.first c.in_ok-batch.ensures.entries c.in_ok-batch.ensures.handed c.in_ok-batch.ensures.told

pub returns-clause-others : goal.returns-clause-others
returns-clause-others g c = others_kept c.args.collector.now c.harvest-batch.new.self c.args.v _ c.harvest-batch.ensures.kept
