use Rattle.std.proofs.Common.{sym, subst, Some}
use Rattle.dr_types.specs.declared.status.Status.{Status}
use Rattle.dr_machine.specs.Views.{KeptView}
use Rattle.dr_command_io.specs.Puts.{status_of_end}
use Rattle.dr_plain.specs.Ended.{left_of}
use Rattle.dr_plain.specs.Top.{IsRunOf, RunSays}
use Rattle.dr_plain.proofs.Finishing.{run_says}
use Rattle.dr_plain.proofs.leaving.finish.Goals as goal

pub returns-clause-says : goal.returns-clause-says
returns-clause-says g c =
    let guest = g.N.Name.guest in
    let told = g.O.Outlet.told c.put_after.new.out in
    let remaining = left_of guest c.args.machine in
    let put = c.put_after.ensures in
    let says = run_says guest remaining g.N.Name.ports told c.args.end c.put_after.result c.keep.ensures.valid
    (subst (λ (k : KeptView). IsRunOf guest k) c.keep.ensures.is c.keep.ensures.run)
    c.requires.stands put.whole put.done put.cut in
    subst (λ (s : Status). RunSays s guest (Some c.keep.result) g.N.Name.ports told) (sym c.status_of_puts-status.ensures)
    (subst (λ (k : KeptView). RunSays (status_of_end c.put_after.result) guest (Some k) g.N.Name.ports told) (sym c.keep.ensures.is) says)
