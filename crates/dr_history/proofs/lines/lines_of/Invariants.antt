use Rattle.std.proofs.Common.{◌≡◌, reverse, take, string_bytes}
use Rattle.dr_history.specs.Lines.{text}
use Rattle.dr_history.proofs.lines.lines_of.Given as goal

abbrev pub invariant-loop-event : goal.invariant-loop-event
invariant-loop-event l = string_bytes l.lines ≡ text (reverse (take l.event-index l.events))
