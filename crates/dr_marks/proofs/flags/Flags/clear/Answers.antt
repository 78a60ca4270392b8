use Rattle.std.proofs.Common.{◌≡◌, replicate, arith, rules}
use Rattle.dr_marks.proofs.Stamps.{zeros_at_most}
use Rattle.dr_marks.proofs.flags.Flags.clear.Goals as goal

pub invariant_of-self : goal.invariant_of-self
invariant_of-self c =
    let e : c.fill.new.self.items ≡ replicate c.self.inside.stamps.len 0 = search rules in
    (omega arith, rw e (zeros_at_most c.self.inside.stamps.len 1))
