-- The records that a history puts on the stream between the header and the end: their bytes and their
-- number.
use Rattle.std.proofs.Common.{◌≡◌, ℕ, ◌+◌, Bool, true, false, cond, List, [], ◌∷◌, ◌++◌, Option, Some, None, is_some, refl, ap, sym, ◌∙◌, append_assoc, append-nil}
use Rattle.std.specs.Prelude.{if◌then◌else◌}
use Rattle.std.specs.List.{list_any}
use Rattle.std.proofs.lemmas.Bool.{and_parts, both_ways, true≢false, false≢true}
use Rattle.dr_types.specs.declared.guest.Guest.{Guest}
use Rattle.dr_types.specs.Pages.{page_count}
use Rattle.dr_history.specs.declared.event.Event.{Event}
use Rattle.dr_history.specs.declared.event.Event.TheVariants.{Start, Synced, Copied, Switched}
use Rattle.dr_history.specs.Lookback.{count, since}
use Rattle.dr_history.specs.Kinds.{is_synced, is_switched}
use Rattle.dr_history.specs.Memory.{page_bytes, zero_page}
use Rattle.dr_history.specs.Protection.{started}
use Rattle.dr_history.specs.Rounds.{unanswered, last_synced, is_next_copy, opens_round}
use Rattle.dr_history.specs.Rules.{copies_next}
use Rattle.dr_history.specs.Parts.{Part, Header, Round, Page, Zeros, part_bytes, parts_bytes, header, has_pages}
use Rattle.dr_history.specs.Stream.{follows_zero, lengthened, with_copy, parts_of, stream_of, written_version}
use Rattle.dr_history.specs.Legality.{IsLegalSoFar, broken}
use Rattle.dr_history_law.proofs.Kept.{keeps, starts_facts, syncs_facts, switches_facts}
use Rattle.dr_history_law.proofs.Switch.{number_some, unanswered_started}
use Rattle.dr_event_law.proofs.Rounds.{synced_started, stopped_started}

-- a Round for each answer that opens one, and a Page for each Copied, or one more page of zeros
abbrev pub records_of : Guest → List Event → List Part
records_of guest [] = []
records_of guest (Synced r at pages ∷ earlier) =
    if opens_round guest (Synced r at pages) earlier then Round r ∷ records_of guest earlier else records_of guest earlier
records_of guest (Copied r page ∷ earlier) =
    with_copy page (page_bytes guest page earlier) (follows_zero guest r page earlier) (records_of guest earlier)
records_of guest (e ∷ earlier) = records_of guest earlier

round_counted : (opens : Bool) (r : ℕ) (parts records : List Part) → count has_pages parts ≡ count has_pages records → count has_pages (cond opens (Round r ∷ parts) parts) ≡ count has_pages (cond opens (Round r ∷ records) records)
round_counted true r parts records h = h
round_counted false r parts records h = h

same_count : (parts : List Part) → count has_pages (lengthened parts) ≡ count has_pages parts
same_count [] = refl
same_count (Zeros first n ∷ parts) = refl
same_count (part ∷ parts) = refl

copy_counted : (zero goes : Bool) (page : ℕ) (bytes : List ℕ) (parts records : List Part) → count has_pages parts ≡ count has_pages records
    → count has_pages (cond zero (cond goes (lengthened parts) (Zeros page 1 ∷ parts)) (Page page bytes ∷ parts)) ≡ count has_pages (cond zero (cond goes (lengthened records) (Zeros page 1 ∷ records)) (Page page bytes ∷ records))
copy_counted true true page bytes parts records h = same_count parts ∙ h ∙ sym (same_count records)
copy_counted true false page bytes parts records h = ap (λ n. n + 1) h
copy_counted false goes page bytes parts records h = ap (λ n. n + 1) h

-- header and end are no records of pages
pub count_records : (guest : Guest) (past : List Event) → count has_pages (parts_of guest past) ≡ count has_pages (records_of guest past)
count_records guest [] = refl
count_records guest (Start at ∷ past) = count_records guest past
count_records guest (Synced r at pages ∷ past) =
    round_counted (opens_round guest (Synced r at pages) past) r (parts_of guest past) (records_of guest past) (count_records guest past)
count_records guest (Copied r page ∷ past) =
    copy_counted (zero_page guest page past) (follows_zero guest r page past) page (page_bytes guest page past) (parts_of guest past) (records_of guest past) (count_records guest past)
count_records guest (Switched ∷ past) = count_records guest past
count_records guest (e ∷ past) = count_records guest past

-- a copy is of the last answer
pub copy_next : (guest : Guest) (past : List Event) (r page : ℕ) → broken guest past (Copied r page) ≡ None → is_next_copy guest r page (last_synced past) (since is_synced past) ≡ true
unfolding copies_next
copy_next guest past r page h = (and_parts _ _ (keeps guest past (Copied r page) h).copies_next_holds).1

next_some : (guest : Guest) (r page : ℕ) (synced : Option (Event × List Event)) (later : List Event) → is_next_copy guest r page synced later ≡ true → is_some synced ≡ true
next_some guest r page None later h = absurd (false≢true h)
next_some guest r page (Some synced) later h = refl

-- before Start nothing is put on the stream
unstarted : (guest : Guest) (past : List Event) → IsLegalSoFar guest past → started past ≡ false → (parts_of guest past ≡ []) × (records_of guest past ≡ [])
unstarted guest [] legal s = (refl, refl)
unstarted guest (Start at ∷ past) legal s = absurd (true≢false s)
unstarted guest (Synced r at pages ∷ past) legal s =
    absurd (both_ways (started past) s (unanswered_started guest past legal.1 (number_some r (unanswered past) (syncs_facts guest past r at pages legal.0).asked)))
unstarted guest (Copied r page ∷ past) legal s =
    absurd (both_ways (started past) s (synced_started guest past legal.1 (next_some guest r page (last_synced past) (since is_synced past) (copy_next guest past r page legal.0))))
unstarted guest (Switched ∷ past) legal s =
    absurd (both_ways (started past) s (stopped_started guest past legal.1 (switches_facts guest past legal.0).stopped))
unstarted guest (e ∷ past) legal s = unstarted guest past legal.1 s

round_begun : (opens : Bool) (r : ℕ) (first : Part) (parts records : List Part) → parts ≡ records ++ first ∷ [] → cond opens (Round r ∷ parts) parts ≡ cond opens (Round r ∷ records) records ++ first ∷ []
round_begun true r first parts records h = ap (λ xs. Round r ∷ xs) h
round_begun false r first parts records h = h

same_end : (version pages : ℕ) (records : List Part) → lengthened (records ++ Header version pages ∷ []) ≡ lengthened records ++ Header version pages ∷ []
same_end version pages [] = refl
same_end version pages (Zeros first n ∷ records) = refl
same_end version pages (part ∷ records) = refl

copy_begun : (zero goes : Bool) (page version pages : ℕ) (bytes : List ℕ) (parts records : List Part) → parts ≡ records ++ Header version pages ∷ []
    → cond zero (cond goes (lengthened parts) (Zeros page 1 ∷ parts)) (Page page bytes ∷ parts) ≡ cond zero (cond goes (lengthened records) (Zeros page 1 ∷ records)) (Page page bytes ∷ records) ++ Header version pages ∷ []
copy_begun true true page version pages bytes parts records h = ap lengthened h ∙ same_end version pages records
copy_begun true false page version pages bytes parts records h = ap (λ xs. Zeros page 1 ∷ xs) h
copy_begun false goes page version pages bytes parts records h = ap (λ xs. Page page bytes ∷ xs) h

-- from Start to the switch-over the parts are the header, and then the records
begun : (guest : Guest) (past : List Event) → IsLegalSoFar guest past → started past ≡ true → list_any is_switched past ≡ false → parts_of guest past ≡ records_of guest past ++ Header written_version (page_count guest) ∷ []
begun guest [] legal s here = absurd (false≢true s)
begun guest (Start at ∷ past) legal s here =
    let none = unstarted guest past legal.1 (starts_facts guest past at legal.0) in
    let first : List Part = Header written_version (page_count guest) ∷ [] in
    ap (λ xs. Header written_version (page_count guest) ∷ xs) none.0 ∙ sym (ap (λ xs. xs ++ first) none.1)
begun guest (Synced r at pages ∷ past) legal s here =
    round_begun (opens_round guest (Synced r at pages) past) r (Header written_version (page_count guest)) (parts_of guest past) (records_of guest past) (begun guest past legal.1 s here)
begun guest (Copied r page ∷ past) legal s here =
    copy_begun (zero_page guest page past) (follows_zero guest r page past) page written_version (page_count guest) (page_bytes guest page past) (parts_of guest past) (records_of guest past) (begun guest past legal.1 s here)
begun guest (Switched ∷ past) legal s here = absurd (true≢false here)
begun guest (e ∷ past) legal s here = begun guest past legal.1 s here

-- what stands at the end of a list of parts comes first
first_bytes : (parts : List Part) (first : Part) → parts_bytes (parts ++ first ∷ []) ≡ part_bytes first ++ parts_bytes parts
first_bytes [] first = sym (append-nil (part_bytes first))
first_bytes (part ∷ parts) first =
    ap (λ xs. xs ++ part_bytes part) (first_bytes parts first) ∙ append_assoc (part_bytes first) (parts_bytes parts) (part_bytes part)

-- so the stream is the header and the records
pub sent : (guest : Guest) (past : List Event) → IsLegalSoFar guest past → started past ≡ true → list_any is_switched past ≡ false → stream_of guest past ≡ header written_version (page_count guest) ++ parts_bytes (records_of guest past)
sent guest past legal s here =
    ap parts_bytes (begun guest past legal s here) ∙ first_bytes (records_of guest past) (Header written_version (page_count guest))
