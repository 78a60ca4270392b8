-- The entries of a vCPU as they lie in its ring: the slot of each page, and the offset there.
use Rattle.std.specs.Prelude.{ℕ, List, map, Option, Some, None}
use Rattle.dr_types.specs.declared.guest.Guest.{Guest}
use Rattle.dr_types.specs.declared.entry.Entry.{Entry}
use Rattle.dr_history.specs.declared.event.Event.{Event}
use Rattle.dr_history.specs.Lookback.{below}
use Rattle.dr_history.specs.Entries.{page_of_entry}
use Rattle.dr_slots.specs.Places.{place_of}

-- where the page of an entry lies
abbrev pub placed : Guest → Option ℕ → Option Entry
placed guest None = None
placed guest (Some page) = place_of guest.slots page

-- entry k of a vCPU: the slot and offset of the page of its Opened
unfoldable pub entry : Guest → ℕ → ℕ → List Event → Option Entry
entry guest v k past = placed guest (page_of_entry v k past)

-- the vCPU's first n entries
abbrev pub first_entries : Guest → ℕ → ℕ → List Event → List (Option Entry)
first_entries guest v n past = map (λ k. entry guest v k past) (below n)
