use Rattle.dr_state.proofs.Holds.{started}
use Rattle.dr_state.proofs.throttle_fields.Throttles.started.Goals as goal

pub returns : goal.returns
returns c = λ guest past h. started guest past c.args.at _ _ _ h
