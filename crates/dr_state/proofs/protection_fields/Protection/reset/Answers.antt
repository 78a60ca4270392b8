use Rattle.dr_state.proofs.Protects.{reset}
use Rattle.dr_state.proofs.protection_fields.Protection.reset.Goals as goal

pub returns-clause-state : goal.returns-clause-state
returns-clause-state c = λ past v k start is h.
    rw (c.protect_page.ensures, c.mark.ensures) (reset _ _ v k c.args.page past _ _ _ _ c.requires.page start is h)
