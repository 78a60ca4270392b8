use Rattle.dr_state.proofs.Holds.{unlimited}
use Rattle.dr_state.proofs.throttle_fields.Throttles.unlimited.Goals as goal

pub returns : goal.returns
returns c = λ guest past r pages none h. unlimited guest past r c.args.at _ pages _ _ none h
