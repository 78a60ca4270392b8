-- So many turns that are plain.
use Rattle.std.proofs.Common.{◌≡◌}
use Rattle.dr_history.specs.Protection.{started}
use Rattle.dr_collector_rows.proofs.start.all_plain.Given as goal

-- logging hasn't begun, or has begun before
abbrev pub invariant-loop : goal.invariant-loop
invariant-loop g l = started l.machine.past ≡ started l.initial.machine.past
