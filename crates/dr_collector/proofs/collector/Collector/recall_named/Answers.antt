use Rattle.std.proofs.Common.{◌≤◌, ◌∙◌, List, length, map, All, ap, sym, subst}
use Rattle.dr_collector.specs.Collected.{Collected, ring_of}
use Rattle.dr_collector.proofs.Gathering.{collected_rings, all_within}
use Rattle.dr_collector.proofs.collector.Collector.recall_named.Goals as goal

pub returns-clause-named : goal.returns-clause-named
returns-clause-named g c = ap (map ring_of) (sym c.self.view_is) ∙ collected_rings _ _ c.self.invariant.count ∙ c.self.invariant.named

pub returns-clause-within : goal.returns-clause-within
returns-clause-within g c = subst (λ (cs : List Collected). All (λ (d : Collected). d.handed ≤ length d.seat.harvested) cs) c.self.view_is (all_within _ _ _ c.self.invariant)
