use Rattle.std.proofs.Common.{◌≡◌, ◌∙◌, ap, arith}
use Rattle.dr_types.specs.declared.guest.Guest.{Guest}
use Rattle.dr_turns.specs.Turns.{after_exit}
use Rattle.dr_log_turns.proofs.Throttling.{throttles_stay, exit_throttles}
use Rattle.dr_machine.proofs.Machines.{few_unpushed}
use Rattle.dr_machine.proofs.machine.Machine.exit.Goals as goal

pub leave-requires-clause-events : goal.leave-requires-clause-events
leave-requires-clause-events g c κs within =
    let few = few_unpushed g.N.Name.guest c.self.inside.seated.past c.args.v c.self.invariant.0 in
    let buffer : c.guest.result.now.settings.buffer ≡ g.N.Name.guest.settings.buffer = ap (λ (h : Guest). h.settings.buffer) (c.guest.ensures.is ∙ c.log-then-inside.ensures.guest) in
    rw c.in_ok-reserve.ensures.past (omega (arith, few, buffer, c.full_buffer-events.ensures, c.in_ok-reserve.ensures.ok))

pub invariant_of-self-then-inside : goal.invariant_of-self-then-inside
invariant_of-self-then-inside g c =
    let guest = g.N.Name.guest in
    let past = c.self.inside.seated.past in (
      c.leave.ensures.end,
      rw (c.leave.ensures.past, c.reserve.ensures.past) (throttles_stay guest past (after_exit guest c.args.v past) c.self.inside.throttles c.self.invariant.1 (exit_throttles guest c.args.v past)),
    )
