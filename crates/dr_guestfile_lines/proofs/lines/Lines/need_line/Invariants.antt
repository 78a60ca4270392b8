use Rattle.std.proofs.Common.{◌≡◌, ◌<◌, ◌+◌, ◌^◌, length}
use Rattle.dr_guestfile_lines.specs.Input.{input_after}
use Rattle.dr_guestfile_lines.proofs.lines.Lines.need_line.Given as goal

abbrev pub invariant-loop-text : goal.invariant-loop-text
invariant-loop-text l = record {
  left : input_after l.self-inside.number l.self-inside.rest.now ≡ l.fn.self;
  fits : l.self-inside.number + length l.self-inside.rest.now + 1 < 2 ^ 64;
}

abbrev pub decreases-loop-text : goal.decreases-loop-text
decreases-loop-text l = length l.self-inside.rest.now
