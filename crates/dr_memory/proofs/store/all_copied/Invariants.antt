use Rattle.std.proofs.Common.{◌≡◌, take}
use Rattle.dr_memory.proofs.store.all_copied.Given as goal

abbrev pub invariant-loop-page : goal.invariant-loop-page
invariant-loop-page l = l.copies.items ≡ take l.page l.fn.pages
