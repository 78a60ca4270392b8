use Rattle.dr_state.proofs.Holds.{unseen}
use Rattle.dr_state.proofs.throttle_fields.Throttles.unseen.Goals as goal

pub returns : goal.returns
returns c = λ guest past e kind h. unseen guest past e _ _ _ kind h
