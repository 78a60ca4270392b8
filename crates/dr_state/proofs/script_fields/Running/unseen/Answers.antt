use Rattle.dr_state.proofs.Runs.{unseen}
use Rattle.dr_state.proofs.script_fields.Running.unseen.Goals as goal

pub returns-clause-state : goal.returns-clause-state
returns-clause-state c = λ guest past e k h. unseen guest past e _ _ k h
