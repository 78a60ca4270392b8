use Rattle.dr_history_law.proofs.Caches.{cached_page}
use Rattle.dr_history_law.proofs.cached_is_writable_or_closing.Goals as goal

pub returns : goal.returns
returns c = cached_page
