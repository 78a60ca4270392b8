use Rattle.dr_state.proofs.Protects.{opened}
use Rattle.dr_state.proofs.protection_fields.Protection.opened.Goals as goal

pub returns-clause-state : goal.returns-clause-state
returns-clause-state c = λ past k h. rw c.open_page.ensures (opened _ _ c.args.v k c.args.page past _ _ _ _ c.requires.vcpu c.requires.page h)
