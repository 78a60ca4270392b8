use Rattle.std.proofs.Common.{◌≡◌, ◌≤◌, ◌+◌}
use Rattle.dr_turns.specs.Buffers.{pushed_after}
use Rattle.dr_machine.proofs.seated.SeatedLog.push_buffer.Given as goal

abbrev pub invariant-loop-n : goal.invariant-loop-n
invariant-loop-n g l = record {
  past : l.self.past ≡ pushed_after l.v l.n l.initial.self.past;
  spare : l.initial.self.room.events ≤ l.self.room.events + l.n;
}
