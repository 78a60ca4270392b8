use Rattle.dr_collector.proofs.Parts.{goes_out}
use Rattle.dr_collector.proofs.collector.Collector.harvest_part.Goals as goal

pub returns-clause-ok : goal.returns-clause-ok
returns-clause-ok g c = goes_out _ _ _ _ _ _ _ c.in_ok-gather.ensures c.hand_out.ensures
