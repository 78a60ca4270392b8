use Rattle.std.proofs.Common.{◌≡◌, ◌≤◌, ◌+◌}
use Rattle.dr_history.specs.Rounds.{last_synced}
use Rattle.dr_turns.specs.Due.{copies_from, round_of}
use Rattle.dr_log_turns.proofs.rounds.copy_each.Given as goal

abbrev pub invariant-loop-k : goal.invariant-loop-k
invariant-loop-k l = record {
  guest : l.log.guest ≡ l.initial.log.guest;
  past : l.log.past ≡ copies_from (round_of (last_synced l.initial.log.past)) l.first l.k l.initial.log.past;
  spare : l.initial.log.room.events ≤ l.log.room.events + l.k;
}
