use Rattle.std.proofs.Common.{◌∙◌}
use Rattle.dr_state.proofs.Protects.{reads_writable}
use Rattle.dr_state.proofs.protection_fields.Protection.is_writable.Goals as goal

pub returns : goal.returns
returns c = λ past h. c.writable.ensures ∙ reads_writable _ _ c.args.page past _ _ _ _ h c.requires
