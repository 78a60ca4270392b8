use Rattle.dr_state.proofs.Protects.{copied}
use Rattle.dr_state.proofs.protection_fields.Protection.copied.Goals as goal

pub returns-clause-state : goal.returns-clause-state
returns-clause-state c = λ past r h. rw c.take-was_dirty.ensures.now (copied _ _ r c.args.page past _ _ _ _ c.requires h)
