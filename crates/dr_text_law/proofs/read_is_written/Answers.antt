use Rattle.dr_text_law.proofs.ReadTexts as proved
use Rattle.dr_text_law.proofs.read_is_written.Goals as goal

pub returns : goal.returns
returns c = proved.read_is_written
