use Rattle.std.proofs.Common.{◌≡◌, ◌-◌, Some, map, string_bytes, length, drop}
use Rattle.dr_command.specs.Words.{no_paths, paths_from}
use Rattle.dr_command.proofs.paths.read_paths.Given as goal

abbrev pub invariant-loop-at : goal.invariant-loop-at
invariant-loop-at l = paths_from (drop 1 (map string_bytes l.words)) 1 (Some no_paths) ≡ paths_from (drop l.at (map string_bytes l.words)) l.at (Some l.paths)

abbrev pub decreases-loop-at : goal.decreases-loop-at
decreases-loop-at l = length l.words - l.at
