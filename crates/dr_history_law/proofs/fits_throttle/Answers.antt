use Rattle.dr_history_law.proofs.Limits.{fits_throttle}
use Rattle.dr_history_law.proofs.fits_throttle.Goals as goal

pub returns : goal.returns
returns c = fits_throttle
