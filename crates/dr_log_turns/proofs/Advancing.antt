-- The throttles of an answer.
use Rattle.std.proofs.Common.{◌≡◌, ℕ, ◌<◌, ◌≤◌, false, List, ◌∷◌, ap, sym, subst, ◌∙◌}
use Rattle.dr_types.specs.declared.guest.Guest.{Guest}
use Rattle.dr_history.specs.declared.event.Event.{Event}
use Rattle.dr_history.specs.declared.event.Event.TheVariants.{Synced, Throttled}
use Rattle.dr_types.specs.Scripts.{vcpu_count}
use Rattle.dr_history.specs.Dirty.{dirty_pages}
use Rattle.dr_history.specs.Legality.{IsLegalSoFar}
use Rattle.dr_history.specs.Throttles.{throttle}
use Rattle.dr_history.specs.Vcpus.{stopped}
use Rattle.dr_event_law.specs.May.{MayFollow}
use Rattle.dr_turns_law.proofs.Answering.{throttle_follows}
use Rattle.dr_turns.specs.Due.{throttled_after}
use Rattle.dr_log_turns.specs.Answered.{HasAnswered}

-- the next vCPU may be throttled
pub throttle_here : (guest : Guest) (past now : List Event) (v : ℕ) → HasAnswered guest past → 1 ≤ guest.settings.quota → stopped past ≡ false → v < vcpu_count guest → now ≡ throttled_after guest v past → IsLegalSoFar guest now → MayFollow guest now (Throttled v (throttle guest v now).us)
throttle_here guest past now v answered quota runs lt is legal =
    let answer : List Event = Synced answered.round answered.at (dirty_pages guest answered.before) ∷ answered.before in
    let here : now ≡ throttled_after guest v answer = is ∙ ap (throttled_after guest v) answered.is in
    let still : stopped answered.before ≡ false = ap stopped (sym answered.is) ∙ runs in
    subst (λ (xs : List Event). MayFollow guest xs (Throttled v (throttle guest v xs).us)) (sym here)
    (throttle_follows guest answered.before answered.round answered.at v (subst (IsLegalSoFar guest) here legal) answered.end answered.here quota still lt)
