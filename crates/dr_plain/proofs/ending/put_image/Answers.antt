use Rattle.std.proofs.Common.{◌<◌, ap, ◌∙◌, subst}
use Rattle.dr_types.specs.Pages.{page_count}
use Rattle.dr_command_io.proofs.Cuts.{on_err}
use Rattle.dr_plain.proofs.Cuts.{image_cut}
use Rattle.dr_plain.proofs.ending.put_image.Goals as goal

pub returns-in_err-put-clause-cut : goal.returns-in_err-put-clause-cut
returns-in_err-put-clause-cut g c =
    let guest = g.N.Name.guest in
    let past = c.args.machine.now.past in
    let old = g.O.Outlet.told c.loop-page.out in
    let new = g.O.Outlet.told c.put.new.out in
    let lt : c.loop-page.page < page_count guest =
    subst (λ n. c.loop-page.page < n) (c.page_count-page-end.ensures ∙ ap page_count c.guest.ensures.is) c.loop-page-test.true in
    on_err c.from_residual.result
    (image_cut guest past c.loop-page.page c.page.result.now (g.O.Outlet.told c.args.out.now) old new lt c.page.ensures.bytes c.loop-page.invariant.told c.in_err-put.ensures.cut)
