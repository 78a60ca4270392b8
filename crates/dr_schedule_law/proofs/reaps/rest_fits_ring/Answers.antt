use Rattle.dr_schedule_law.proofs.Fitting.{rest_fits}
use Rattle.dr_schedule_law.proofs.reaps.rest_fits_ring.Goals as goal

pub returns : goal.returns
returns c = rest_fits
