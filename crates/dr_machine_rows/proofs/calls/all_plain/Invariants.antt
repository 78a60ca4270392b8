use Rattle.std.proofs.Common.{◌≡◌}
use Rattle.dr_history.specs.Protection.{started}
use Rattle.dr_machine_rows.proofs.calls.all_plain.Given as goal

abbrev pub invariant-loop : goal.invariant-loop
invariant-loop g l = started l.machine.past ≡ started l.initial.machine.past
