use Rattle.dr_headline_law.proofs.Promises.{headline}
use Rattle.dr_headline_law.proofs.headline_holds.Goals as goal

pub returns : goal.returns
returns c = headline
