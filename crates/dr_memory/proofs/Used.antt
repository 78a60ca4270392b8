-- The lemmas that a function uses by name, where they are many.
use Rattle.dr_memory.proofs.Bytes.{put_more}
use Rattle.dr_history.proofs.Pages.{length_overwritten}

pub ruleset for_overwrite = (put_more, length_overwritten)
