use Rattle.dr_state.proofs.Opens.{unseen}
use Rattle.dr_state.proofs.entry_fields.OpenedEntries.unseen.Goals as goal

pub returns : goal.returns
returns c = λ n past e kind h. unseen n past e _ kind h
