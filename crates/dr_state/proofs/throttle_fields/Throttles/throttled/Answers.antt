use Rattle.dr_state.proofs.Holds.{throttled}
use Rattle.dr_state.proofs.throttle_fields.Throttles.throttled.Goals as goal

pub returns : goal.returns
returns c = λ guest past us h. rw c.one_after-self.ensures (throttled guest past c.args.v us _ _ _ h)
