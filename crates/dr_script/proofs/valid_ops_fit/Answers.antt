use Rattle.dr_script.proofs.Fits.{op_fits}
use Rattle.dr_script.proofs.valid_ops_fit.Goals as goal

pub returns : goal.returns
returns c = op_fits
