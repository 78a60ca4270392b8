use Rattle.dr_headline_law.proofs.Promises.{promises}
use Rattle.dr_headline_law.proofs.promises_hold.Goals as goal

pub returns : goal.returns
returns c = promises
