-- The stream of a history that has switched over loads as the destination's memory.
use Rattle.std.proofs.Common.{◌≡◌, ◌≤◌, List, [], ◌∷◌, ◌++◌, length, All, ap, sym, ◌∙◌, arith}
use Rattle.std.specs.List.{list_any}
use Rattle.std.proofs.lemmas.Bool.{both_ways, false≢true}
use Rattle.std.proofs.lemmas.List.Elements.{All-head}
use Rattle.dr_types.specs.declared.guest.SlotRow.{SlotRow}
use Rattle.dr_types.specs.declared.guest.Guest.{Guest}
use Rattle.dr_types.specs.Pages.{page_count, pages_of_slots}
use Rattle.dr_types.specs.Validity.{IsValid}
use Rattle.dr_history.specs.declared.event.Event.{Event}
use Rattle.dr_history.specs.declared.event.Event.TheVariants.{Switched}
use Rattle.dr_history.specs.Lookback.{count}
use Rattle.dr_history.specs.Kinds.{is_switched}
use Rattle.dr_history.specs.Legality.{IsLegalSoFar}
use Rattle.dr_history.specs.Memory.{copied_bytes}
use Rattle.dr_history.specs.Parts.{header, parts_bytes, end_record, has_pages}
use Rattle.dr_history.specs.Stream.{parts_of, stream_of, written_version}
use Rattle.dr_history_law.proofs.Kept.{switches_facts, unswitched}
use Rattle.dr_history_law.proofs.Listing.{map_below}
use Rattle.dr_event_law.proofs.Rounds.{stopped_started}
use Rattle.dr_stream_law.specs.Grammar.{Begins}
use Rattle.dr_stream_law.specs.Loading.{loaded_page, StreamLoads}
use Rattle.dr_stream_law.proofs.Sent.{records_of, count_records, sent}
use Rattle.dr_stream_law.proofs.Loaded.{loaded_copied}
use Rattle.dr_stream_law.proofs.Placed.{placed}

-- slots have a page
some_page : (rows : List SlotRow) → 1 ≤ length rows → All (λ row. 1 ≤ row.pages) rows → 1 ≤ pages_of_slots rows
some_page [] some each = absurd (omega arith)
some_page (row ∷ rows) some each = let first : 1 ≤ row.pages = All-head (λ (r : SlotRow). 1 ≤ r.pages) row rows each in omega arith

-- the end says how many records of pages came
ended : (guest : Guest) (past : List Event) → stream_of guest past ≡ header written_version (page_count guest) ++ parts_bytes (records_of guest past) → stream_of guest (Switched ∷ past) ≡ header written_version (page_count guest) ++ parts_bytes (records_of guest past) ++ end_record (count has_pages (records_of guest past))
ended guest past h =
    ap (λ xs. xs ++ end_record (count has_pages (parts_of guest past))) h
    ∙ ap (λ n. header written_version (page_count guest) ++ parts_bytes (records_of guest past) ++ end_record n) (count_records guest past)

-- the records are those of a stream, and the end follows them
begins : (guest : Guest) (past : List Event) → IsValid guest → IsLegalSoFar guest (Switched ∷ past) → Begins (stream_of guest (Switched ∷ past)) written_version (page_count guest) (records_of guest past) (end_record (count has_pages (records_of guest past)))
begins guest past valid legal = record {
  some_version = omega arith;
  known = omega arith;
  some = some_page guest.slots valid.slots.some valid.slots.some_pages;
  few = valid.slots.pages;
  in_place = placed guest past valid.settings.rounds legal.1;
  bytes_are = ended guest past (sent guest past legal.1 (stopped_started guest past legal.1 (switches_facts guest past legal.0).stopped) (unswitched guest past Switched legal.0));
}

pub stream_loads : (guest : Guest) (past : List Event) → StreamLoads guest past
stream_loads guest [] valid legal switched = absurd (false≢true switched)
stream_loads guest (Switched ∷ past) valid legal switched =
    record {
      version = written_version;
      pages = page_count guest;
      parts = records_of guest past;
      begins = begins guest past valid legal;
      image_is = map_below (λ page. copied_bytes guest page past) (λ page. loaded_page page (records_of guest past)) (page_count guest) (λ page _. sym (loaded_copied guest page past));
      counted = count_records guest past;
    }
stream_loads guest (e ∷ past) valid legal switched = absurd (both_ways (list_any is_switched past) (unswitched guest past e legal.0) switched)
