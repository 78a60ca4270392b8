use Rattle.dr_text_law.proofs.Texts as proved
use Rattle.dr_text_law.proofs.one_text.Goals as goal

pub returns : goal.returns
returns c = proved.one_text
