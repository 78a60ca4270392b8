use Rattle.std.proofs.Common.{◌≡◌, ◌≤◌}
use Rattle.dr_types.specs.declared.port.Port.TheVariants.{Image}
use Rattle.dr_types.specs.Ports.{put_at}
use Rattle.dr_plain.proofs.Images.{first_pages}
use Rattle.dr_plain.proofs.ending.put_image.Given as goal

abbrev pub invariant-loop-page : goal.invariant-loop-page
invariant-loop-page g l = record {
  told : g.O.Outlet.told l.out ≡ put_at Image (first_pages g.N.Name.guest l.machine.past l.page) (g.O.Outlet.told l.initial.out);
  later : g.O.Outlet.faults l.initial.out ≤ g.O.Outlet.faults l.out;
}
