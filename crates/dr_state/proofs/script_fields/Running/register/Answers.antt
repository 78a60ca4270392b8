use Rattle.std.proofs.Common.{◌∙◌, ◌<◌, length, arith}
use Rattle.std.proofs.lemmas.Grind.{common_steps}
use Rattle.dr_state.proofs.Runs.{reads_register}
use Rattle.dr_state.proofs.script_fields.Running.register.Goals as goal

pub returns : goal.returns
returns c = λ guest past h.
    let lt : c.args.v < length c.args.self.now.registers.items = grind (arith, common_steps) in
    c.index.ensures ∙ reads_register guest past c.args.v c.index.result.now _ _ h lt
