use Rattle.dr_history_law.proofs.Limits.{fits_rate}
use Rattle.dr_history_law.proofs.fits_rate.Goals as goal

pub returns : goal.returns
returns c = fits_rate
