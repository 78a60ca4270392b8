-- Each answer has all that was written before it was asked.
use Rattle.std.proofs.Common.{◌≡◌, ℕ, ◌+◌, ◌-◌, ◌<◌, ◌≤◌, Bool, true, false, cond, List, [], ◌∷◌, ◌++◌, Option, Some, is_some, refl, arith, ap, sym, ◌∙◌, subst, ◌/◌}
use Rattle.std.specs.Prelude.{◌||◌, ◌&&◌, not, ◌==◌, nat_le, nat_lt}
use Rattle.std.specs.List.{list_any}
use Rattle.std.proofs.lemmas.Bool.{eqb-true, and_parts, or_from, true≢false, false≢true, ltb-true, leb-true}
use Rattle.dr_types.specs.declared.guest.Guest.{Guest}
use Rattle.dr_types.specs.declared.guest.SlotRow.{SlotRow}
use Rattle.dr_types.specs.Pages.{has_frame, page_count, page_from, page_of_address, pages_of_slots}
use Rattle.dr_history.specs.declared.event.Event.{Event}
use Rattle.dr_history.specs.declared.event.Event.TheVariants.{Start, Write, Paint, Reset, Flushed, Asked, Synced, Copied}
use Rattle.dr_history.specs.Lookback.{count, since, before, is_number}
use Rattle.dr_history.specs.Kinds.{is_asked, copies_page}
use Rattle.dr_history.specs.Entries.{page_of_entry, resets}
use Rattle.dr_history.specs.Protection.{started, opened_last, closing}
use Rattle.dr_history.specs.Dirty.{dirty, dirty_pages}
use Rattle.dr_history.specs.Rounds.{asks, unanswered}
use Rattle.dr_history.specs.Unsent.{has_uncopied_write, is_unsent}
use Rattle.dr_history.specs.Legality.{IsLegalSoFar}
use Rattle.dr_history_law.specs.Outstanding.{is_outstanding, outstanding}
use Rattle.dr_history_law.specs.Answer.{outstanding_since_asked, UnsentIsOwed, AnswersUnsent, AnswersWritten}
use Rattle.dr_history_law.proofs.Kept.{resets_facts, asks_facts, syncs_facts, paint_facts}
use Rattle.dr_history_law.proofs.Outstanding.{dropped, unique, opens_as, unreset, writable_outstanding}
use Rattle.dr_history_law.proofs.Agreement.{uncopied_owed}
use Rattle.dr_history_law.proofs.Switch.{number_some, none_outstanding}
use Rattle.dr_history_law.proofs.Listing.{either, none_below, present, same_list}
use Rattle.dr_history_law.proofs.Earlier.{earlier_legal, count_both}
use Rattle.dr_history_law.proofs.Unsent.{unsent_from}

-- a page is dirty or closing, or one of its entries that was opened before the Asked is outstanding
abbrev Covered : ℕ → List Event → Type 0
Covered page past = (dirty page past || closing page past) ≡ false → 0 < count (is_outstanding page past) (before is_asked past)

fewer : (passes : Bool) (a b c : ℕ) → a ≤ b → a ≤ cond passes (b + 1) b
fewer true a b c h = omega arith
fewer false a b c h = h

-- of earlier events fewer pass
before_fewer : (f : Event → Bool) (past : List Event) → count f (before is_asked past) ≤ count f past
before_fewer f [] = omega arith
before_fewer f (Asked r ∷ past) = fewer (f (Asked r)) (count f past) (count f past) 0 (omega arith)
before_fewer f (e ∷ past) = fewer (f e) (count f (before is_asked past)) (count f past) 0 (before_fewer f past)

asked_case : (d c s last : Bool) (n : ℕ) → (d || c || (not s || last)) ≡ true → n ≡ cond (not s || last) 1 0 → (d || c) ≡ false → 0 < n
asked_case d c s last n h e f = asked_split (d || c) (not s || last) n h e f
  where
    asked_split : (x w : Bool) (n : ℕ) → (x || w) ≡ true → n ≡ cond w 1 0 → x ≡ false → 0 < n
    asked_split true w n h e f = cc
    asked_split false true n h e f = omega (arith, e)
    asked_split false false n h e f = cc

flushed_case : (d c : Bool) (G : Type 0) → ((d || c) ≡ false → G) → ((c || d) || false) ≡ false → G
flushed_case true true G f h = absurd (true≢false h)
flushed_case true false G f h = absurd (true≢false h)
flushed_case false true G f h = absurd (true≢false h)
flushed_case false false G f h = f refl

reset_case : (d c reset : Bool) (l m n x : ℕ) → ((d || c) ≡ false → 0 < l) → l ≡ m + n → n ≤ x → x ≡ cond reset 1 0 → (d || (reset || c)) ≡ false → 0 < m
reset_case true c reset l m n x f e b u h = absurd (true≢false h)
reset_case false c true l m n x f e b u h = absurd (true≢false h)
reset_case false c false l m n x f e b u h = let p : 0 < l = f h in omega (arith, e, b, u)

copied_case : (same d c u gone : Bool) (n : ℕ) → ((u && not gone) ≡ true → (d || c) ≡ false → 0 < n) → (u && not (same || gone)) ≡ true → (cond same false d || c) ≡ false → 0 < n
copied_case true d c true gone n f h k = absurd (false≢true h)
copied_case true d c false gone n f h k = absurd (false≢true h)
copied_case false d c u gone n f h k = f h k

covered : (guest : Guest) (past : List Event) (page : ℕ) → IsLegalSoFar guest past → is_some (unanswered past) ≡ true → is_unsent guest page past ≡ true → Covered page past
covered guest [] page legal a u h = absurd (false≢true a)
covered guest (Start at ∷ past) page legal a u h = absurd (true≢false h)
covered guest (Asked r ∷ past) page legal a u h =
    asked_case (dirty page past) (closing page past) (started past) (opened_last page past) (outstanding page past)
    (uncopied_owed guest past page legal.1 (and_parts (has_uncopied_write guest page past) true u).0)
    (writable_outstanding guest past page legal.1 (asks_facts guest past r legal.0).started) h
covered guest (Synced r at pages ∷ past) page legal a u h = absurd (false≢true a)
covered guest (Reset w k ∷ past) page legal a u h =
    let number : k ≡ resets w past = (resets_facts guest past w k legal.0).number in
    reset_case (dirty page past) (closing page past) (is_number page (page_of_entry w k past))
    (count (is_outstanding page past) (before is_asked past)) (count (is_outstanding page (Reset w k ∷ past)) (before is_asked past)) (count (opens_as w k page) (before is_asked past)) (count (opens_as w k page) past)
    (covered guest past page legal.1 a u)
    (dropped page w k past (before is_asked past) (unreset guest past w k legal.1 (omega arith)))
    (before_fewer (opens_as w k page) past)
    (unique guest past w k page legal.1) h
covered guest (Flushed ∷ past) page legal a u h =
    flushed_case (dirty page past) (closing page past) (0 < count (is_outstanding page past) (before is_asked past)) (covered guest past page legal.1 a u) h
covered guest (Copied r q ∷ past) page legal a u h =
    copied_case (q == page) (dirty page past) (closing page past) (has_uncopied_write guest page (before is_asked past)) (list_any (copies_page page) (since is_asked past)) (count (is_outstanding page past) (before is_asked past))
    (covered guest past page legal.1 a) u h
covered guest (e ∷ past) page legal a u h = covered guest past page legal.1 a u h

-- where some pass, one does
some_pass : (f : Event → Bool) (xs : List Event) → 0 < count f xs → list_any f xs ≡ true
some_pass f [] h = absurd (omega arith)
some_pass f (e ∷ xs) h = pass_case (f e) (count f xs) (list_any f xs) (some_pass f xs) h
  where
    pass_case : (p : Bool) (n : ℕ) (rest : Bool) → (0 < n → rest ≡ true) → 0 < cond p (n + 1) n → (p || rest) ≡ true
    pass_case true n rest f h = refl
    pass_case false n rest f h = f h

owed_case : (x o : Bool) → (x ≡ false → o ≡ true) → (x || o) ≡ true
owed_case true o f = refl
owed_case false o f = f refl

pub unsent_is_owed : (guest : Guest) (past : List Event) → IsLegalSoFar guest past → UnsentIsOwed guest past
unsent_is_owed guest past legal page a u =
    owed_case (dirty page past || closing page past) (outstanding_since_asked page past) (λ h. some_pass (is_outstanding page past) (before is_asked past) (covered guest past page legal a u h))

-- a page that is written is one of the guest
from_case : (here : Bool) (n page first rest size : ℕ) (o : Option ℕ) → (here ≡ true → n < first + size) → (is_number page o ≡ true → page < (first + size) + rest) → is_number page (cond here (Some n) o) ≡ true → page < first + (size + rest)
from_case true n page first rest size o f g h =
    let lt : n < first + size = f refl in
    let same : n ≡ page = eqb-true n page h in
    omega (arith, same)
from_case false n page first rest size o f g h =
    let lt : page < (first + size) + rest = g h in
    omega arith

pub page_from_below : (first : ℕ) (rows : List SlotRow) (space frame page : ℕ) → is_number page (page_from first rows space frame) ≡ true → page < first + pages_of_slots rows
page_from_below first [] space frame page h = absurd (false≢true h)
page_from_below first (row ∷ rows) space frame page h =
    from_case (has_frame row space frame) (first + (frame - row.base)) page first (pages_of_slots rows) row.pages (page_from (first + row.pages) rows space frame)
    (λ t.
    let tests = and_parts (nat_le row.base frame) (nat_lt frame (row.base + row.pages)) (and_parts (row.space == space) _ t).1 in
    let le : row.base ≤ frame = leb-true row.base frame tests.0 in
    let lt : frame < row.base + row.pages = ltb-true frame (row.base + row.pages) tests.1 in
    omega arith)
    (page_from_below (first + row.pages) rows space frame page) h

since_copy : (same u : Bool) (G : Type 0) → (u ≡ true → G) → cond same false u ≡ true → G
since_copy true u G f h = absurd (false≢true h)
since_copy false u G f h = f h

pub uncopied_below : (guest : Guest) (past : List Event) (page : ℕ) → IsLegalSoFar guest past → has_uncopied_write guest page past ≡ true → page < page_count guest
uncopied_below guest [] page legal u = absurd (false≢true u)
uncopied_below guest (Write v i space address len value ∷ past) page legal u =
    either (is_number page (page_of_address guest space address)) (has_uncopied_write guest page past) (page < page_count guest)
    (λ w. let lt : page < 0 + pages_of_slots guest.slots = page_from_below 0 guest.slots space (address / 4096) page w in omega arith)
    (uncopied_below guest past page legal.1) u
uncopied_below guest (Paint v i q byte ∷ past) page legal u =
    either (q == page) (has_uncopied_write guest page past) (page < page_count guest)
    (λ w. subst (λ (p : ℕ). p < page_count guest) (eqb-true q page w) (paint_facts guest past v i q byte legal.0).named)
    (uncopied_below guest past page legal.1) u
uncopied_below guest (Copied r q ∷ past) page legal u =
    since_copy (q == page) (has_uncopied_write guest page past) (page < page_count guest) (uncopied_below guest past page legal.1) u
uncopied_below guest (e ∷ past) page legal u = uncopied_below guest past page legal.1 u

-- what was legal before
before_legal : (guest : Guest) (past : List Event) → IsLegalSoFar guest past → IsLegalSoFar guest (before is_asked past)
before_legal guest [] legal = tt
before_legal guest (Asked r ∷ past) legal = legal.1
before_legal guest (e ∷ past) legal = before_legal guest past legal.1

true_or : (d c : Bool) → (d ≡ false → c ≡ false → ⊥) → c ≡ false → d ≡ true
true_or true c f h = refl
true_or false c f h = absurd (f refl h)

pub answers_unsent : (guest : Guest) (past : List Event) (r at : ℕ) (pages : List ℕ) → IsLegalSoFar guest (Synced r at pages ∷ past) → AnswersUnsent guest past pages
answers_unsent guest past r at pages legal page u =
    let facts = syncs_facts guest past r at pages legal.0 in
    let asked : is_some (unanswered past) ≡ true = number_some r (unanswered past) facts.asked in
    let written : has_uncopied_write guest page (before is_asked past) ≡ true = (and_parts (has_uncopied_write guest page (before is_asked past)) (not (list_any (copies_page page) (since is_asked past))) u).0 in
    let l : page < page_count guest = uncopied_below guest (before is_asked past) page (before_legal guest past legal.1) written in
    let closed : closing page past ≡ false = none_below (λ p. closing p past) (page_count guest) page facts.flushed l in
    let none : count (is_outstanding page past) (before is_asked past) ≡ 0 = none_outstanding page past (before is_asked past) facts.reset in
    let is_dirty : dirty page past ≡ true =
    true_or (dirty page past) (closing page past)
    (λ x y. let some : 0 < count (is_outstanding page past) (before is_asked past) = covered guest past page legal.1 asked u (or_from (dirty page past) (closing page past) x y) in omega (arith, none))
    closed in
    ap (λ (qs : List ℕ). list_any (λ q. q == page) qs) (same_list pages (dirty_pages guest past) facts.exact) ∙ (present (λ p. dirty p past) (page_count guest) page l ∙ is_dirty)

-- the number of a round that has no answer is how many were asked
pub asked_number : (guest : Guest) (past : List Event) (r : ℕ) → IsLegalSoFar guest past → is_number r (unanswered past) ≡ true → r ≡ asks past
asked_number guest [] r legal h = absurd (false≢true h)
asked_number guest (Asked n ∷ past) r legal h = sym (eqb-true n r h) ∙ (asks_facts guest past n legal.0).number
asked_number guest (Synced n at pages ∷ past) r legal h = absurd (false≢true h)
asked_number guest (e ∷ past) r legal h = asked_number guest past r legal.1 h

-- where none passes, no element does
none_pass : (passes : Bool) (n : ℕ) (rest : Bool) → (n ≡ 0 → rest ≡ false) → cond passes (n + 1) n ≡ 0 → (passes || rest) ≡ false
none_pass true n rest f h = absurd (omega (arith, h))
none_pass false n rest f h = f h

count_none : (f : Event → Bool) (xs : List Event) → count f xs ≡ 0 → list_any f xs ≡ false
count_none f [] h = refl
count_none f (e ∷ xs) h = none_pass (f e) (count f xs) (list_any f xs) (count_none f xs) h

pub answers_written : (guest : Guest) (after : List Event) (r at : ℕ) (pages : List ℕ) (later between : List Event) (write : Event) (earlier : List Event) → AnswersWritten guest after r at pages later between write earlier
answers_written guest after r at pages later between write earlier page so_far w c d =
    let legal = earlier_legal guest after (Synced r at pages ∷ (later ++ Asked r ∷ (between ++ write ∷ earlier))) so_far in
    let rest : List Event = between ++ write ∷ earlier in
    let past : List Event = later ++ Asked r ∷ rest in
    let facts = syncs_facts guest past r at pages legal.0 in
    let last : r ≡ asks past = asked_number guest past r legal.1 facts.asked in
    let number : r ≡ asks rest + 1 = (asks_facts guest rest r (earlier_legal guest later (Asked r ∷ rest) legal.1).0).number in
    let sum : asks past ≡ count is_asked later + (asks rest + 1) = count_both is_asked later (Asked r ∷ rest) in
    let none : list_any is_asked later ≡ false = count_none is_asked later (omega (arith, last, number, sum)) in
    answers_unsent guest past r at pages legal page (unsent_from guest r later between write earlier page none w c d)
