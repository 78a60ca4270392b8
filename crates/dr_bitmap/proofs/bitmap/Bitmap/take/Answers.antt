use Rattle.std.proofs.Common.{◌∙◌, ap, length, sym, arith}
use Rattle.dr_bitmap.proofs.Counts.{counts_fewer}
use Rattle.dr_bitmap.proofs.bitmap.Bitmap.take.Goals as goal

pub invariant_of-self : goal.invariant_of-self
invariant_of-self c =
    counts_fewer c.self.inside.count c.args.p c.self.inside.flags.items c.index.result.now (omega (arith, ap length c.self.view_is)) (sym c.index.ensures ∙ c.if-not-index.false) c.self.invariant
