-- How many pages are copied and sent at most.
use Rattle.std.proofs.Common.{◌≡◌, ℕ, zero, suc, ◌+◌, ◌*◌, ◌^◌, ◌-◌, ◌<◌, ◌≤◌, Bool, true, false, cond, List, [], ◌∷◌, is_some, length, refl, ap, sym, subst, ◌∙◌, arith, add-one, slice_get}
use Rattle.std.proofs.lemmas.Bool.{false≢true}
use Rattle.std.proofs.lemmas.List.{length-append}
use Rattle.std.proofs.lemmas.List.Sums.{length-filter, count_by-le-length}
use Rattle.dr_types.specs.declared.guest.Guest.{Guest}
use Rattle.dr_types.specs.Pages.{page_count}
use Rattle.dr_types.specs.Validity.{IsValid}
use Rattle.dr_history.specs.declared.event.Event.{Event}
use Rattle.dr_history.specs.declared.event.Event.TheVariants.{Start, Asked, Synced, Copied, Switched}
use Rattle.dr_history.specs.Dirty.{dirty, dirty_pages}
use Rattle.dr_history.specs.Kinds.{is_copied, is_synced}
use Rattle.dr_history.specs.Legality.{IsLegalSoFar}
use Rattle.dr_history.specs.Lookback.{below, count, is_number}
use Rattle.dr_history.specs.Memory.{page_bytes, zero_page}
use Rattle.dr_history.specs.Parts.{Part, Round, Page, Zeros, has_pages}
use Rattle.dr_history.specs.Stream.{follows_zero, lengthened, parts_of, sent_records}
use Rattle.dr_history.specs.Rounds.{asks, unanswered, last_synced, opens_round}
use Rattle.dr_history_law.specs.Copies.{copies, pages_of}
use Rattle.dr_history_law.proofs.Copies.{answers_exactly, copy_facts, next_copy}
use Rattle.dr_history_law.proofs.Kept.{syncs_facts}
use Rattle.dr_history_law.proofs.Switch.{number_some}
use Rattle.dr_turns_law.proofs.Going.{asks_fit}

below_length : (n : ℕ) → length (below n) ≡ n
below_length zero = refl
below_length (suc n) = length-append (below n) (n ∷ []) ∙ ap (λ m. m + 1) (below_length n) ∙ add-one n

number_within : (xs : List ℕ) (n page : ℕ) → is_number page (slice_get xs n) ≡ true → n < length xs
number_within [] n page h = cc
number_within (x ∷ xs) zero page h = omega arith
number_within (x ∷ xs) (suc n) page h = omega (arith, number_within xs n page h)

-- an answer has no more pages than the guest
answer_few : (guest : Guest) (past : List Event) → IsLegalSoFar guest past → length (pages_of (last_synced past)) ≤ page_count guest
answer_few guest [] legal = omega arith
answer_few guest (Synced r at pages ∷ past) legal =
    let is : pages ≡ dirty_pages guest past = answers_exactly guest [] past r at pages legal in
    let counted = length-filter (λ page. dirty page past) (below (page_count guest)) in
    let le = count_by-le-length (λ page. dirty page past) (below (page_count guest)) in
    omega (arith, ap length is, counted, le, below_length (page_count guest))
answer_few guest (e ∷ past) legal = answer_few guest past legal.1

-- no more of its pages are copied than it has
copies_few : (guest : Guest) (past : List Event) → IsLegalSoFar guest past → copies past ≤ length (pages_of (last_synced past))
copies_few guest [] legal = omega arith
copies_few guest (Synced r at pages ∷ past) legal = omega arith
copies_few guest (Copied r page ∷ past) legal =
    let next : copies past < length (pages_of (last_synced past)) =
    number_within (pages_of (last_synced past)) (copies past) page (sym (next_copy guest past page legal.1) ∙ copy_facts guest past r page legal.0) in
    omega arith
copies_few guest (e ∷ past) legal = copies_few guest past legal.1

-- no more pages are copied than all answers have
copied_sum : (guest : Guest) (past : List Event) → page_count guest ≤ 16384 → IsLegalSoFar guest past → count is_copied past + length (pages_of (last_synced past)) ≤ 16384 * count is_synced past + copies past
copied_sum guest [] small legal = omega arith
copied_sum guest (Synced r at pages ∷ past) small legal =
    let old : count is_copied past + length (pages_of (last_synced past)) ≤ 16384 * count is_synced past + copies past = copied_sum guest past small legal.1 in
    let few : copies past ≤ length (pages_of (last_synced past)) = copies_few guest past legal.1 in
    let here : length pages ≤ page_count guest = answer_few guest (Synced r at pages ∷ past) legal in
    omega arith
copied_sum guest (Copied r page ∷ past) small legal = let old : count is_copied past + length (pages_of (last_synced past)) ≤ 16384 * count is_synced past + copies past = copied_sum guest past small legal.1 in omega arith
copied_sum guest (e ∷ past) small legal = copied_sum guest past small legal.1

owed : (some : Bool) (last n : ℕ) → some ≡ true → last + cond some 1 0 ≤ n → last < n
owed true last n s h = omega arith
owed false last n s h = absurd (false≢true s)

-- no more rounds are answered than asked
answers_asked : (guest : Guest) (past : List Event) → IsLegalSoFar guest past → count is_synced past + cond (is_some (unanswered past)) 1 0 ≤ asks past
answers_asked guest [] legal = omega arith
answers_asked guest (Asked r ∷ past) legal =
    let old : count is_synced past + cond (is_some (unanswered past)) 1 0 ≤ asks past = answers_asked guest past legal.1 in
    omega arith
answers_asked guest (Synced r at pages ∷ past) legal =
    let fewer : count is_synced past < asks past = owed (is_some (unanswered past)) (count is_synced past) (asks past) (number_some r (unanswered past) (syncs_facts guest past r at pages legal.0).asked) (answers_asked guest past legal.1) in
    omega arith
answers_asked guest (e ∷ past) legal = answers_asked guest past legal.1

-- the record of a round has no pages
pub round_unsent : (opens : Bool) (r : ℕ) (parts : List Part) → count has_pages (cond opens (Round r ∷ parts) parts) ≡ count has_pages parts
round_unsent true r parts = refl
round_unsent false r parts = refl

-- how many pages are copied has room in their count
copied_fits : (guest : Guest) (past : List Event) → IsValid guest → IsLegalSoFar guest past → count is_copied past < 2 ^ 32 - 1
copied_fits guest past valid legal =
    let sum : count is_copied past + length (pages_of (last_synced past)) ≤ 16384 * count is_synced past + copies past = copied_sum guest past valid.slots.pages legal in
    let few : copies past ≤ length (pages_of (last_synced past)) = copies_few guest past legal in
    let asked : count is_synced past + cond (is_some (unanswered past)) 1 0 ≤ asks past = answers_asked guest past legal in
    let all : asks past ≤ 65 = asks_fit guest past valid legal in
    omega arith

same_count : (parts : List Part) → count has_pages (lengthened parts) ≡ count has_pages parts
same_count [] = refl
same_count (Zeros first n ∷ parts) = refl
same_count (part ∷ parts) = refl

-- a copied page is one record more, or goes on one
copy_sent : (zero goes : Bool) (page : ℕ) (bytes : List ℕ) (parts : List Part) → count has_pages (cond zero (cond goes (lengthened parts) (Zeros page 1 ∷ parts)) (Page page bytes ∷ parts)) ≤ count has_pages parts + 1
copy_sent true true page bytes parts = omega (arith, same_count parts)
copy_sent true false page bytes parts = omega arith
copy_sent false goes page bytes parts = omega arith

-- no more records are sent than pages copied
records_few : (guest : Guest) (past : List Event) → sent_records guest past ≤ count is_copied past
records_few guest [] = omega arith
records_few guest (Start at ∷ past) = records_few guest past
records_few guest (Synced r at pages ∷ past) =
    subst (λ (n : ℕ). n ≤ count is_copied past) (sym (round_unsent (opens_round guest (Synced r at pages) past) r (parts_of guest past))) (records_few guest past)
records_few guest (Copied r page ∷ past) =
    let old : sent_records guest past ≤ count is_copied past = records_few guest past in
    let one = copy_sent (zero_page guest page past) (follows_zero guest r page past) page (page_bytes guest page past) (parts_of guest past) in
    omega (arith, old, one)
records_few guest (Switched ∷ past) = records_few guest past
records_few guest (e ∷ past) = records_few guest past

-- how many records are sent has room in their count
pub records_fit : (guest : Guest) (past : List Event) → IsValid guest → IsLegalSoFar guest past → sent_records guest past < 2 ^ 32 - 1
records_fit guest past valid legal =
    let few : sent_records guest past ≤ count is_copied past = records_few guest past in
    let fits : count is_copied past < 2 ^ 32 - 1 = copied_fits guest past valid legal in
    omega arith
