use Rattle.std.proofs.Common.{◌<◌, length, arith}
use Rattle.std.proofs.lemmas.Grind.{common_steps}
use Rattle.dr_state.proofs.Opens.{opened}
use Rattle.dr_state.proofs.entry_fields.OpenedEntries.opened.Goals as goal

pub returns : goal.returns
returns c = λ n k past num none h.
    let lt : c.args.v < length c.args.self.now.rows.items = grind (arith, common_steps) in
    opened n c.args.v k c.args.page past _ c.index_mut.result.now c.push_kept.new.self lt num none c.index_mut.ensures.value c.push_kept.ensures h
