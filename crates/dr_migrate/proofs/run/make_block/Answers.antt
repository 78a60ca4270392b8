use Rattle.std.proofs.Common.{◌∙◌, ◌≡◌, sym}
use Rattle.dr_migrate.proofs.Running.{time_read, same_read, waited_block}
use Rattle.dr_migrate.proofs.run.make_block.Goals as goal

pub returns-in_err-end-clause-times : goal.returns-in_err-end-clause-times
returns-in_err-end-clause-times g c =
    let reads = g.C.Clock.reads c.args.context.now.clock.now in
    let old = c.args.bench.now.past in
    let mid = c.advance.new.bench.past in
    same_read reads old mid c.wait.new.bench.past (time_read reads c.now_us.result old mid c.now_us.ensures c.in_ok-due.ensures.times) c.in_err-end.ensures.waited.timeless

pub returns-clause-made_block : goal.returns-clause-made_block
returns-clause-made_block g c =
    let guest = g.N.Name.guest in
    let old = c.args.bench.now.past in
    let mid = c.advance.new.bench.past in
    let same : mid ≡ old = c.in_ok-due.ensures.advanced.waits (sym c.appends.ensures ∙ c.if-appends.false) in
    waited_block guest c.in_ok-end.end old mid c.wait.new.bench.past same c.recall_kept.ensures.legal.0 c.in_ok-end.ensures.waited

pub returns-in_err-due-clause-times : goal.returns-in_err-due-clause-times
returns-in_err-due-clause-times g c =
    time_read (g.C.Clock.reads c.args.context.now.clock.now) c.now_us.result c.args.bench.now.past
    c.advance.new.bench.past c.now_us.ensures c.in_err-due.ensures.times

pub returns-then-appends-clause-times : goal.returns-then-appends-clause-times
returns-then-appends-clause-times g c =
    time_read (g.C.Clock.reads c.args.context.now.clock.now) c.now_us.result c.args.bench.now.past
    c.advance.new.bench.past c.now_us.ensures c.in_ok-due.ensures.times
