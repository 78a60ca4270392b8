use Rattle.dr_collector.specs.Batched.{as_batch}
use Rattle.dr_reap.proofs.Gathered.{all_ranges}
use Rattle.dr_reap.proofs.harvests.harvest_all.Goals as goal

pub returns-clause-ranges : goal.returns-clause-ranges
returns-clause-ranges g c =
    all_ranges (λ b. as_batch b.vcpu b.first b.entries b.note) g.N.Name.guest c.args.bench.now.past g.N.Name.rings c.args.rings.now.size c.in_ok-notes.notes c.args.collector.now c.harvest_all-batches.new.self c.harvest_all-batches.result
    c.recall_kept.ensures.legal.0 c.recall_kept.ensures.rings c.recall_sizes.ensures c.requires c.recall_named.ensures.within c.in_ok-notes.ensures.notes
    c.harvest_all-batches.ensures.count c.harvest_all-batches.ensures.each
