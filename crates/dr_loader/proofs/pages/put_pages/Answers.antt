use Rattle.std.proofs.Common.{◌<◌, arith}
use Rattle.dr_command_io.proofs.Cuts.{on_err}
use Rattle.dr_loader.proofs.Paging.{page_cut, page_more}
use Rattle.dr_loader.proofs.pages.put_pages.Goals as goal

pub returns-in_err-put-clause-cut : goal.returns-in_err-put-clause-cut
returns-in_err-put-clause-cut g c =
    let more : c.loop-at.at < c.page_end-end.result = c.page_end-end.ensures.more in
    on_err c.from_residual.result
    (page_cut c.args.bytes.now c.loop-at.at c.page_end-end.result (g.O.Outlet.told c.args.out.now) (g.O.Outlet.told c.loop-at.out) (g.O.Outlet.told c.put.new.out)
    (omega (arith, more)) c.loop-at.invariant.told c.in_err-put.ensures.cut)

pub loop-at-preserved : goal.loop-at-preserved
loop-at-preserved g c =
    let more : c.loop-at.at < c.page_end-end.result = c.page_end-end.ensures.more in
    record {
      told = page_more c.args.bytes.now c.loop-at.at c.page_end-end.result (g.O.Outlet.told c.args.out.now) (g.O.Outlet.told c.loop-at.out) (g.O.Outlet.told c.put.new.out)
          c.loop-at.invariant.within (omega (arith, more)) c.loop-at.invariant.told c.in_ok-put.ensures.done;
      within = c.page_end-end.ensures.within;
      later = omega (arith, c.loop-at.invariant.later, c.put.ensures.later);
    }
