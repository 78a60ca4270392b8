-- The page that an advance copies.
use Rattle.std.specs.Prelude.{ℕ, ◌<◌, List}
use Rattle.dr_types.specs.declared.guest.Guest.{Guest}
use Rattle.dr_types.specs.Pages.{page_count}
use Rattle.dr_history.specs.declared.event.Event.{Event}
use Rattle.dr_history.specs.Memory.{page_bytes}
use Rattle.dr_turns.specs.declared.answers.Advance.{Advance}
use Rattle.dr_turns.specs.declared.answers.Advance.TheVariants.{Copied}

-- the bytes after an advance that gave this answer: those of the page that was copied, or what they
-- were before
abbrev pub copied_into : Guest → List Event → Advance → List ℕ → List ℕ
copied_into guest past (Copied r page) bytes = page_bytes guest page past
copied_into guest past answer bytes = bytes

-- a page that is copied is one of the guest's
abbrev pub CopiesWithin : Guest → Advance → Type 0
CopiesWithin guest (Copied r page) = page < page_count guest
CopiesWithin guest answer = Unit {0}
