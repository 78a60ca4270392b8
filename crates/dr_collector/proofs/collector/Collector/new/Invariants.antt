use Rattle.dr_collector.proofs.Beginning.{AreNothing}
use Rattle.dr_collector.proofs.collector.Collector.new.Given as goal

abbrev pub invariant-loop : goal.invariant-loop
invariant-loop g l = AreNothing l.counter l.pendings.items
