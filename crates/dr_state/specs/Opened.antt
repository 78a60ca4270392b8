-- What is kept of each entry, so that nobody looks back.
use Rattle.std.specs.Prelude.{◌≡◌, ℕ, ◌<◌, ◌≤◌, true, false, ◌&&◌, nat_le, nat_lt, if◌then◌else◌}
use Rattle.std.specs.Prelude.{List, map, length, slice_index_or as get_or, Option, Some, None}
use Rattle.std.specs.List.{list_any}
use Rattle.dr_history.specs.declared.event.Event.{Event}
use Rattle.dr_history.specs.declared.event.Event.TheVariants.{Opened, Deposited}
use Rattle.dr_history.specs.Entries.{opens, page_of_entry}
use Rattle.dr_history.specs.Rules.{deposits_entry}
use Rattle.dr_state.specs.Rows.{table}
use Rattle.dr_state.specs.declared.entry_fields.OpenedEntry.{OpenedEntry}
use Rattle.dr_state.specs.declared.entry_fields.OpenedEntries.{OpenedEntries}

-- the page, or 0 where there is none
abbrev pub page_or_none : Option ℕ → ℕ
page_or_none None = 0
page_or_none (Some page) = page

-- what is kept of the entry of this number
abbrev pub entry_of : List Event → ℕ → ℕ → OpenedEntry
entry_of past v k = record {
  page = page_or_none (page_of_entry v k past);
  deposited = list_any (deposits_entry v k) past;
}

-- the entries that the vCPU opened
abbrev pub entries_of : List Event → ℕ → List OpenedEntry
entries_of past v = table (entry_of past v) (opens v past)

-- the entries, without how many more have room
abbrev pub firsts : List (List OpenedEntry × ℕ) → List (List OpenedEntry)
firsts rows = map (λ row. row.0) rows

-- the entries of so many vCPUs
unfoldable pub rows_are : ℕ → List Event → List (List OpenedEntry)
rows_are n past = table (entries_of past) n

-- what is kept are the entries that were opened
abbrev pub AreEntries : ℕ → List Event → OpenedEntries → Type 0
AreEntries n past it = firsts it.rows.items ≡ rows_are n past

-- the entry, deposited
abbrev pub deposited_entry : OpenedEntry → OpenedEntry
deposited_entry entry = record entry { deposited = true }

-- no entry shows the event
abbrev pub IsNoEntry : Event → Type 0
IsNoEntry (Opened v k page) = ⊥
IsNoEntry (Deposited v from to) = ⊥
IsNoEntry e = Unit {0}

-- the row has room for one more
abbrev pub HasRoomAt : ℕ → List (List OpenedEntry × ℕ) → Type 0
HasRoomAt v rows = (d : List OpenedEntry × ℕ) → 1 ≤ (get_or rows v d).1

-- these entries, of which those from one number up to another are deposited
abbrev pub IsMarked : ℕ → ℕ → List OpenedEntry → List OpenedEntry → Type 0
IsMarked from to old new =
    (length new ≡ length old)
    × ((k : ℕ) (d : OpenedEntry) → k < length old
    → get_or new k d ≡
    (if nat_le from k && nat_lt k to then deposited_entry (get_or old k d) else get_or old k d))

-- there is room for the entry that the event opens
abbrev pub OpeningFits : Event → List (List OpenedEntry × ℕ) → Type 0
OpeningFits (Opened v k page) rows = HasRoomAt v rows
OpeningFits e rows = Unit {0}

-- the entries can take the event
abbrev pub EntryFits : Event → List (List OpenedEntry × ℕ) → Type 0
EntryFits (Opened v k page) rows = HasRoomAt v rows
EntryFits (Deposited v from to) rows =
    (from ≤ to) × ((d : List OpenedEntry × ℕ) → to ≤ length (get_or rows v d).0)
EntryFits e rows = Unit {0}

-- what the rules say of the entry that an event opens
abbrev pub OpensNext : Event → List Event → Type 0
OpensNext (Opened v k page) past = (k ≡ opens v past) × (list_any (deposits_entry v k) past ≡ false)
OpensNext e past = Unit {0}
