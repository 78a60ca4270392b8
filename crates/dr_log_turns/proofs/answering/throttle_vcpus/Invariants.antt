use Rattle.std.proofs.Common.{◌≡◌, ◌≤◌, ◌+◌}
use Rattle.dr_types.specs.Scripts.{vcpu_count}
use Rattle.dr_turns.specs.Due.{throttled_after}
use Rattle.dr_log_turns.proofs.answering.throttle_vcpus.Given as goal

abbrev pub invariant-loop-v : goal.invariant-loop-v
invariant-loop-v l = record {
  guest : l.log.guest ≡ l.initial.log.guest;
  past : l.log.past ≡ throttled_after l.initial.log.guest l.v l.initial.log.past;
  spare : l.initial.log.room.events ≤ l.log.room.events + l.v;
  most : l.v ≤ vcpu_count l.initial.log.guest;
}
