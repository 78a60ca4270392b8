use Rattle.std.proofs.Common.{◌∙◌, ◌<◌, length, arith}
use Rattle.std.proofs.lemmas.Grind.{common_steps}
use Rattle.dr_state.proofs.Runs.{reads_rest}
use Rattle.dr_state.proofs.script_fields.Running.op.Goals as goal

pub returns : goal.returns
returns c = λ guest past h.
    let lt : c.args.v < length c.args.self.now.readers.items = grind (arith, common_steps) in
    c.next.ensures ∙ reads_rest guest past c.args.v _ _ c.index-reader.result.now h lt c.index-reader.ensures
