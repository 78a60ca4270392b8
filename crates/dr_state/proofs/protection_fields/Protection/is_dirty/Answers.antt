use Rattle.std.proofs.Common.{◌∙◌}
use Rattle.dr_state.proofs.Protects.{reads_dirty}
use Rattle.dr_state.proofs.protection_fields.Protection.is_dirty.Goals as goal

pub returns : goal.returns
returns c = λ past h. c.contains.ensures ∙ reads_dirty _ _ c.args.page past _ _ _ _ h c.requires
