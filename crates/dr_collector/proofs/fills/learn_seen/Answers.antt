use Rattle.std.proofs.Common.{ap, sym, arith}
use Rattle.dr_collector.specs.Collected.{learnt}
use Rattle.dr_collector.proofs.Seating.{is_there, set_same}
use Rattle.dr_collector.proofs.fills.learn_seen.Goals as goal

pub returns-in_default : goal.returns-in_default
returns-in_default g c =
    let there = is_there c.args.users.now c.args.v (omega (arith, c.vcpus-recall_seats.ensures.vcpus, c.vcpus-recall_seats.ensures.named, c.requires.vcpu)) in
    (there.0, there.0, there.1, sym (set_same _ _ _ there.1), ap (λ seen. learnt seen there.0) (sym c.in_default.is))
