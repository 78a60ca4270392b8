use Rattle.std.proofs.Common.{◌∙◌, length, ap, sym}
use Rattle.dr_collector.proofs.Gathering.{collected_count}
use Rattle.dr_collector.proofs.collector.Collector.vcpus.Goals as goal

pub returns-clause-vcpus : goal.returns-clause-vcpus
returns-clause-vcpus g c = c.vcpus.ensures.vcpus ∙ sym (collected_count _ _ c.self.invariant.count) ∙ ap length c.self.view_is
