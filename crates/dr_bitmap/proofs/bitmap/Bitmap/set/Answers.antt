use Rattle.std.proofs.Common.{◌∙◌, ap, length, sym, arith}
use Rattle.dr_bitmap.proofs.Counts.{counts_more}
use Rattle.dr_bitmap.proofs.bitmap.Bitmap.set.Goals as goal

pub invariant_of-self : goal.invariant_of-self
invariant_of-self c =
    counts_more c.self.inside.count c.args.p c.self.inside.flags.items c.index.result.now (omega (arith, ap length c.self.view_is)) (sym c.index.ensures ∙ c.if-index.false) c.self.invariant
