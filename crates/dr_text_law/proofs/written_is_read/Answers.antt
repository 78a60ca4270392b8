use Rattle.dr_text_law.proofs.Texts as proved
use Rattle.dr_text_law.proofs.written_is_read.Goals as goal

pub returns : goal.returns
returns c = proved.written_is_read
