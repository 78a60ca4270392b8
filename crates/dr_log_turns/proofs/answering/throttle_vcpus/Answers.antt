use Rattle.std.proofs.Common.{◌≡◌, ◌<◌, ◌∙◌, sym, subst, ap, rules, ℕ}
use Rattle.dr_types.specs.declared.guest.Guest.{Guest}
use Rattle.dr_types.specs.declared.rates.Throttle.{Throttle}
use Rattle.dr_types.specs.Scripts.{vcpu_count}
use Rattle.dr_history.specs.declared.event.Event.TheVariants.{Throttled}
use Rattle.dr_history.specs.Legality.{IsLegalSoFar}
use Rattle.dr_history.specs.Throttles.{throttle}
use Rattle.dr_event_law.specs.May.{MayFollow}
use Rattle.dr_log_turns.proofs.Advancing.{throttle_here}
use Rattle.dr_log_turns.proofs.answering.throttle_vcpus.Goals as goal

pub take-requires-clause-follows : goal.take-requires-clause-follows
take-requires-clause-follows c =
    let guest = c.args.log.now.guest in
    let now = c.loop-v.log.past in
    let v = c.loop-v.v in
    let same = c.loop-v.invariant.guest in
    let lt : v < vcpu_count guest = search (rules, c.loop-v-test.true, c.vcpus-v-end.ensures) in
    let legal : IsLegalSoFar guest now = subst (λ (h : Guest). IsLegalSoFar h now) same c.recall_legal.ensures.legal in
    let is : c.throttle-us.result.us ≡ (throttle guest v now).us =
    ap (λ (t : Throttle). t.us) c.throttle-us.ensures ∙ ap (λ (h : Guest). (throttle h v now).us) same in
    subst (λ (h : Guest). MayFollow h now (Throttled v c.throttle-us.result.us)) (sym same)
    (subst (λ (us : ℕ). MayFollow guest now (Throttled v us)) (sym is)
    (throttle_here guest c.args.log.now.past now v c.requires.answered c.requires.quota c.requires.runs lt c.loop-v.invariant.past legal))
