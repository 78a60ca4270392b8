use Rattle.std.proofs.Common.{◌<◌, length, arith}
use Rattle.std.proofs.lemmas.Grind.{common_steps}
use Rattle.dr_state.proofs.Opens.{deposited}
use Rattle.dr_state.proofs.entry_fields.OpenedEntries.deposited.Goals as goal

pub returns : goal.returns
returns c = λ n past h.
    let lt : c.args.v < length c.args.self.now.rows.items = grind (arith, common_steps) in
    deposited n c.args.v c.args.from c.args.to past _ c.index_mut.result.now c.mark.new.row lt c.index_mut.ensures.value c.mark.ensures h
