use Rattle.std.proofs.Common.{◌≡◌, replicate, arith, rules}
use Rattle.dr_marks.proofs.Stamps.{zeros_at_most}
use Rattle.dr_marks.proofs.flags.Flags.new.Goals as goal

pub invariant_of-result : goal.invariant_of-result
invariant_of-result c =
    let e : c.in_ok-vec.field-0.items ≡ replicate c.args.len 0 = search rules in
    (omega arith, rw e (zeros_at_most c.args.len 1))
