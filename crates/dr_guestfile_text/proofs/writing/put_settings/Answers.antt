use Rattle.std.proofs.Common.{rules, append_assoc}
use Rattle.dr_guestfile_text.proofs.writing.put_settings.Goals as goal

pub returns : goal.returns
returns c = search (rules, append_assoc)
