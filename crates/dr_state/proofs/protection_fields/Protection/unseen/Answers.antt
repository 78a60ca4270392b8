use Rattle.dr_state.proofs.Protects.{unseen}
use Rattle.dr_state.proofs.protection_fields.Protection.unseen.Goals as goal

pub returns-clause-state : goal.returns-clause-state
returns-clause-state c = λ past e is h. unseen _ _ past e _ _ _ _ is h
