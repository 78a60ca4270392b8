use Rattle.dr_history_law.proofs.Cover.{covers_opened}
use Rattle.dr_history_law.proofs.answer_covers_opened.Goals as goal

pub returns : goal.returns
returns c = covers_opened
