use Rattle.std.proofs.Common.{◌≡◌, []}
use Rattle.dr_state.specs.Opened.{firsts, rows_are}
use Rattle.dr_state.proofs.entry_fields.OpenedEntries.new.Given as goal

abbrev pub invariant-loop-v : goal.invariant-loop-v
invariant-loop-v l = firsts l.rows.items ≡ rows_are l.v []
