use Rattle.std.proofs.Common.{ap, ◌∙◌}
use Rattle.dr_types.specs.Scripts.{vcpu_count}
use Rattle.std.proofs.Common.{length}
use Rattle.dr_run.proofs.Starting.{first_all_deposited, none_harvested}
use Rattle.dr_run.proofs.run.make_ready.Goals as goal

pub new-requires-after_bounds : goal.new-requires-after_bounds
new-requires-after_bounds g c κs within = none_harvested g.N.Name.rings c.in_ok-rings.field-0.users c.in_ok-rings.ensures.users

pub returns-clause-all_deposited : goal.returns-clause-all_deposited
returns-clause-all_deposited g c =
    first_all_deposited g.N.Name.guest g.N.Name.rings c.in_ok-rings.field-0.users c.in_ok-collector.collector
    (ap length c.requires.set ∙ c.requires.one_each ∙ ap vcpu_count c.requires.guest) c.in_ok-rings.ensures.users c.in_ok-collector.ensures
