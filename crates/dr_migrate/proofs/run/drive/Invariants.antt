use Rattle.std.proofs.Common.{◌-◌, length}
use Rattle.dr_schedule_law.specs.Bound.{most_events}
use Rattle.dr_migrate.specs.Driving.{HasDriven}
use Rattle.dr_migrate.proofs.run.drive.Given as goal

abbrev pub invariant-loop-end : goal.invariant-loop-end
invariant-loop-end g l = HasDriven (g.C.Clock.reads l.fn.clock) g.N.Name.guest l.initial.bench l.bench l.collector

abbrev pub decreases-loop-end : goal.decreases-loop-end
decreases-loop-end g l = most_events g.N.Name.guest - length l.bench.past
