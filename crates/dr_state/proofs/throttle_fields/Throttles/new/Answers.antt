use Rattle.std.proofs.Common.{◌≡◌, ◌∙◌, sym, arith}
use Rattle.dr_state.proofs.Firsts.{none_held}
use Rattle.dr_state.proofs.throttle_fields.Throttles.new.Goals as goal

pub returns : goal.returns
returns c = λ guest size.
    let end : c.loop-v.v ≡ c.args.count = omega arith in
    none_held guest c.loop-v.v _ (size ∙ sym end) c.loop-v.invariant
