use Rattle.std.proofs.Common.{◌∙◌}
use Rattle.dr_state.proofs.Protects.{reads_cached}
use Rattle.dr_state.proofs.protection_fields.Protection.is_cached.Goals as goal

pub returns : goal.returns
returns c = λ past h. c.cached.ensures ∙ reads_cached _ _ c.args.v c.args.page past _ _ _ _ h c.requires.vcpu c.requires.page
