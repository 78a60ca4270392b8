use Rattle.std.proofs.Common.{◌≤◌, arith}
use Rattle.dr_limit.proofs.Products.{step_fits}
use Rattle.dr_limit.proofs.next.Goals as goal

pub overflow_mul-step : goal.overflow_mul-step
overflow_mul-step c =
    let small : c.from.result ≤ 65536 = omega arith in
    step_fits c.from.result c.max-peak.result c.max-high.result c.min-low.result small
