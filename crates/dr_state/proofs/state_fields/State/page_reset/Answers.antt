use Rattle.std.proofs.Common.{◌≡◌, ◌∙◌, ◌<◌, sym, subst, ℕ}
use Rattle.std.specs.Prelude.{IfSome, Option}
use Rattle.dr_history.specs.Entries.{page_of_entry}
use Rattle.dr_history_law.proofs.Entered.{page_named}
use Rattle.dr_state.proofs.state_fields.State.page_reset.Goals as goal

pub returns-in-Reset-clause-is : goal.returns-in-Reset-clause-is
returns-in-Reset-clause-is c = λ guest past h.
    let is : c.page.result ≡ page_of_entry c.in-Reset.v c.in-Reset.k past = c.page.ensures guest _ past h.legal h.are_entries in
    let here : IfSome (page_of_entry c.in-Reset.v c.in-Reset.k past) (λ p. p < c.pages.result) =
    rw (c.pages.ensures, h.protection_pages) (page_named guest past c.in-Reset.v c.in-Reset.k h.legal) in
    let named : IfSome c.page.result (λ p. p < c.pages.result) =
    subst (λ (o : Option ℕ). IfSome o (λ p. p < c.pages.result)) (sym is) here in
    rw c.in-Reset.is (c.below.ensures.is named ∙ is)
