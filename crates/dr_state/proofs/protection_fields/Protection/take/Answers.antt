use Rattle.std.proofs.Common.{◌≡◌, ◌∙◌, ◌∷◌, Some, ap, sym, subst}
use Rattle.dr_history.specs.declared.event.Event.{Event}
use Rattle.dr_history.specs.declared.event.Event.TheVariants.{Start, Reset}
use Rattle.dr_history.specs.Legality.{IsLegalSoFar}
use Rattle.dr_state.specs.Pages.{IsProtection, page_reset}
use Rattle.dr_state.proofs.Untouched.{starts_untouched, resets_after}
use Rattle.dr_state.proofs.protection_fields.Protection.take.Goals as goal

pub returns-in-Start-clause-state : goal.returns-in-Start-clause-state
returns-in-Start-clause-state c = λ guest past legal is h.
    let at = c.in-Start.at in
    let here : IsLegalSoFar guest (Start at ∷ past) = subst (λ (e : Event). IsLegalSoFar guest (e ∷ past)) c.in-Start.is legal in
    subst (λ (e : Event). IsProtection (e ∷ past) c.started.new.self) (sym c.in-Start.is)
    (c.started.ensures.state past at (starts_untouched guest past at here) h)

pub returns-in-Some-clause-state : goal.returns-in-Some-clause-state
returns-in-Some-clause-state c = λ guest past legal is h.
    let v = c.in-Reset.v in
    let k = c.in-Reset.k in
    let here : IsLegalSoFar guest (Reset v k ∷ past) = subst (λ (e : Event). IsLegalSoFar guest (e ∷ past)) c.in-Reset.is legal in
    let named : page_reset (Reset v k) past ≡ Some c.in-Some.page =
    ap (λ (e : Event). page_reset e past) (sym c.in-Reset.is) ∙ sym is ∙ c.in-Some.is in
    subst (λ (e : Event). IsProtection (e ∷ past) c.reset.new.self) (sym c.in-Reset.is)
    (c.reset.ensures.state past v k (resets_after guest past v k c.in-Some.page here.1 named) named h)
