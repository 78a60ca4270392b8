use Rattle.std.proofs.Common.{rules}
use Rattle.dr_reap.specs.Harvests.{handed_of}
use Rattle.dr_reap.proofs.Batches.{in_numbers}
use Rattle.dr_migrate.proofs.Waiting.{reap_moves, reap_breaks}
use Rattle.dr_migrate.proofs.waits.reap.Goals as goal

pub returns-in_err-reap_all-clause-breaks : goal.returns-in_err-reap_all-clause-breaks
returns-in_err-reap_all-clause-breaks g c =
    let breaks = reap_breaks g.N.Name.guest c.requires.due.now c.args.v c.args.k c.args.bench.now.past c.reap_all.new.bench.past c.requires.due.answer c.in_err-reap_all.ensures.begun c.in_err-reap_all.ensures.part in
    search (rules, breaks)

pub returns-clause-moves : goal.returns-clause-moves
returns-clause-moves g c =
    let guest = g.N.Name.guest in
    let old = c.args.bench.now.past in
    let handed = handed_of c.args.collector.now in
    reap_moves guest c.requires.due.now c.args.v c.args.k old c.reap_all.new.bench.past handed c.recall_kept.ensures.legal.0
    (in_numbers guest old c.args.collector.now c.requires.going.all_deposited) c.requires.due.answer c.in_ok-reap_all.ensures.ok
