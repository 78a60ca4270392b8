use Rattle.dr_guestfile_law.proofs.GuestAgain.{guest_again}
use Rattle.dr_guestfile_law.proofs.law.written_is_read.Goals as goal

pub returns : goal.returns
returns c = guest_again
