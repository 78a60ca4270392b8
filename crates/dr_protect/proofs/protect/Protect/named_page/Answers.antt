use Rattle.std.proofs.Common.{ap, ◌∙◌, sym, arith}
use Rattle.dr_types.specs.Pages.{pages_of_slots}
use Rattle.dr_protect.specs.Permissions.{Permissions}
use Rattle.dr_protect.proofs.Places.{place_within, names_none}
use Rattle.dr_protect.proofs.protect.Protect.named_page.Goals as goal

pub returns-in_err-checked_add-clause-is : goal.returns-in_err-checked_add-clause-is
returns-in_err-checked_add-clause-is c =
    c.from_residual.ensures
    ∙ names_none c.args.self.now.rows c.args.slot c.args.base c.args.mask c.args.i
    (omega (arith, c.in_err-checked_add.ensures, ap (λ (it : Permissions). pages_of_slots it.rows) c.self.view_is))

pub returns-clause-within : goal.returns-clause-within
returns-clause-within c =
    place_within c.self.inside.slots c.args.slot c.in_ok-checked_add.field-0 c.args.self.now.pages c.page_at.result c.page_at.ensures
    (sym c.self.invariant.pages_are ∙ ap (λ (it : Permissions). it.pages) c.self.view_is)
