use Rattle.dr_plain.proofs.step.step.Given as goal

abbrev pub ghosts-step_named : goal.ghosts-step_named
ghosts-step_named g a = record {
  guest = a.guest;
  rings = a.set.rings;
  ports = g.O.Outlet.told a.out;
  faults = g.O.Outlet.faults a.out;
}
