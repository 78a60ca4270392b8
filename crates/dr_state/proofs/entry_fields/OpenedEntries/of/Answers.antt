use Rattle.std.proofs.Common.{◌∙◌, ◌<◌, length, arith}
use Rattle.std.proofs.lemmas.Grind.{common_steps}
use Rattle.dr_state.proofs.Opens.{reads_entries}
use Rattle.dr_state.proofs.entry_fields.OpenedEntries.of.Goals as goal

pub returns : goal.returns
returns c = λ n past h.
    let lt : c.args.v < length c.args.self.now.rows.items = grind (arith, common_steps) in
    c.as_slice.ensures ∙ reads_entries n c.args.v past _ c.index.result.now h lt c.index.ensures
