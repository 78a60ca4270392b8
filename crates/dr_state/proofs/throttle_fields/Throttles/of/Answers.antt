use Rattle.std.proofs.Common.{◌<◌, length, arith}
use Rattle.std.proofs.lemmas.Grind.{common_steps}
use Rattle.dr_state.proofs.Holds.{reads_held}
use Rattle.dr_state.proofs.throttle_fields.Throttles.of.Goals as goal

pub returns : goal.returns
returns c = λ guest past some h.
    let lt : c.args.v < length c.args.self.now.list.items = grind (arith, common_steps) in
    reads_held guest past c.args.v _ _ _ c.index.result.now some h lt c.index.ensures
