use Rattle.dr_state.proofs.Protects.{filled}
use Rattle.dr_state.proofs.protection_fields.Protection.filled.Goals as goal

pub returns-clause-state : goal.returns-clause-state
returns-clause-state c = λ past h. rw c.fill.ensures (filled _ _ c.args.v c.args.page past _ _ _ _ c.requires.vcpu c.requires.page h)
