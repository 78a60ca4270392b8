use Rattle.std.proofs.Common.{◌≡◌, ◌-◌, ◌≤◌, length, take}
use Rattle.dr_types.specs.declared.port.Port.TheVariants.{Image}
use Rattle.dr_types.specs.Ports.{put_at}
use Rattle.dr_loader.proofs.pages.put_pages.Given as goal

abbrev pub invariant-loop-at : goal.invariant-loop-at
invariant-loop-at g l = record {
  told : g.O.Outlet.told l.out ≡ put_at Image (take l.at l.bytes) (g.O.Outlet.told l.initial.out);
  within : l.at ≤ length l.bytes;
  later : g.O.Outlet.faults l.initial.out ≤ g.O.Outlet.faults l.out;
}

abbrev pub decreases-loop-at : goal.decreases-loop-at
decreases-loop-at g l = length l.bytes - l.at
