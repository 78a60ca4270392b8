use Rattle.dr_machine.proofs.Powers.{power_of_two}
use Rattle.dr_machine.proofs.rig.rings_for.Goals as goal

pub new-requires-clause-power : goal.new-requires-clause-power
new-requires-clause-power c = power_of_two c.args.guest.now.settings.ring c.requires.settings.ring_power
