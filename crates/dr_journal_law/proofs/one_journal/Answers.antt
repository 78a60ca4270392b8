use Rattle.dr_journal_law.proofs.Journals as proved
use Rattle.dr_journal_law.proofs.one_journal.Goals as goal

pub returns : goal.returns
returns c = proved.one_journal
